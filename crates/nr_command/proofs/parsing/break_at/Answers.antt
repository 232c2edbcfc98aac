use Rattle.std.proofs.Common.{rules}
use Rattle.nr_command.proofs.parsing.break_at.Goals as goal

pub returns-in-Some : goal.returns-in-Some
returns-in-Some c = search rules
