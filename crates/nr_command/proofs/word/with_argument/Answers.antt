use Rattle.std.proofs.Common.{rules}
use Rattle.nr_command.proofs.word.with_argument.Goals as goal

pub returns-in-3 : goal.returns-in-3
returns-in-3 c = search rules
