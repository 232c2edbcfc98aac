use Rattle.std.proofs.Common.{rules}
use Rattle.nr_command.proofs.word.from_one_below.Goals as goal

pub returns : goal.returns
returns c = search rules
