use Rattle.std.proofs.Common.{rules}
use Rattle.nr_command.proofs.parsing.direction.Goals as goal

pub returns-then-is-2 : goal.returns-then-is-2
returns-then-is-2 c = search rules
