use Rattle.std.proofs.Common.{rules}
use Rattle.nr_command.proofs.word.cell_at.Goals as goal

pub returns : goal.returns
returns c = search rules

pub returns-2 : goal.returns-2
returns-2 c = search rules
