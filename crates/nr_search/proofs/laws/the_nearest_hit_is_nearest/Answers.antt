use Rattle.nr_search.proofs.FinderLemmas.{backward-is, forward-is}
use Rattle.nr_search.proofs.laws.the_nearest_hit_is_nearest.Goals as goal

pub returns-clause-forward : goal.returns-clause-forward
returns-clause-forward c = forward-is

pub returns-clause-backward : goal.returns-clause-backward
returns-clause-backward c = backward-is
