use Rattle.nr_desc.proofs.WakingLemmas.{woken_held}
use Rattle.nr_desc.proofs.laws.the_woken_were_held.Goals as goal

pub returns : goal.returns
returns c = woken_held
