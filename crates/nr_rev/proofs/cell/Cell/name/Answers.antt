use Rattle.std.proofs.Common.{rules}
use Rattle.nr_rev.proofs.cell.Cell.name.Goals as goal

pub returns-in-ReadSequence : goal.returns-in-ReadSequence
returns-in-ReadSequence c = search rules
