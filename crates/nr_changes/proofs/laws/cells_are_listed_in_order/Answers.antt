use Rattle.nr_changes.proofs.AllCellsLemmas.{differing_in_order}
use Rattle.nr_changes.proofs.OrderLemmas.{touched_in_order}
use Rattle.nr_changes.proofs.laws.cells_are_listed_in_order.Goals as goal

pub returns : goal.returns
returns c = record { touched = touched_in_order; differing = differing_in_order }
