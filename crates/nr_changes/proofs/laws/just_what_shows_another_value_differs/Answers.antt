use Rattle.nr_changes.proofs.AllCellsLemmas.{differing}
use Rattle.nr_changes.proofs.laws.just_what_shows_another_value_differs.Goals as goal

pub returns : goal.returns
returns c = differing
