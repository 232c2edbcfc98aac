use Rattle.std.proofs.Common.{rules}
use Rattle.nr_command.proofs.parsing.request.Goals as goal

pub returns-then-is-22 : goal.returns-then-is-22
returns-then-is-22 c = search rules
