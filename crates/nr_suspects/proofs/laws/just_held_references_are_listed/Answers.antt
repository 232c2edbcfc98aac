use Rattle.nr_suspects.proofs.HeldReferenceLemmas.{held_is_listed, listed_is_held}
use Rattle.nr_suspects.proofs.laws.just_held_references_are_listed.Goals as goal

pub returns-clause-listed : goal.returns-clause-listed
returns-clause-listed c = listed_is_held

pub returns-clause-complete : goal.returns-clause-complete
returns-clause-complete c = held_is_listed
