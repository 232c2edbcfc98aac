use Rattle.std.proofs.Common.{rules}
use Rattle.nr_command.proofs.word.small.Goals as goal

pub returns : goal.returns
returns c = search rules
