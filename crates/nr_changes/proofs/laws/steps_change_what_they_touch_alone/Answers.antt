use Rattle.nr_changes.proofs.CellLemmas.{untouched_stays}
use Rattle.nr_changes.proofs.laws.steps_change_what_they_touch_alone.Goals as goal

pub returns : goal.returns
returns c = untouched_stays
