use Rattle.std.proofs.Common.{rules}
use Rattle.nr_rev.proofs.cell_value.CellValue.is.Goals as goal

pub returns : goal.returns
returns c = search rules
