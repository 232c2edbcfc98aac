use Rattle.std.proofs.Common.{rules}
use Rattle.nr_command.proofs.parsing.topic_of.Goals as goal

pub returns-then-is-3 : goal.returns-then-is-3
returns-then-is-3 c = search rules
