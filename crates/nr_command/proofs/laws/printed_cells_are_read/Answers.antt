use Rattle.nr_command.proofs.CellTextLemmas.{cell_again}
use Rattle.nr_command.proofs.laws.printed_cells_are_read.Goals as goal

pub returns : goal.returns
returns c = cell_again
