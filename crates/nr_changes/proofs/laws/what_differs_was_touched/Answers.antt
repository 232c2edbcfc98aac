use Rattle.nr_changes.proofs.AllCellsLemmas.{changed_differing}
use Rattle.nr_changes.proofs.laws.what_differs_was_touched.Goals as goal

pub returns : goal.returns
returns c = changed_differing
