use Rattle.nr_suspects.proofs.LostWakeUpLemmas.{listed_is_lost, lost_is_listed}
use Rattle.nr_suspects.proofs.laws.just_lost_wake_ups_are_listed.Goals as goal

pub returns-clause-listed : goal.returns-clause-listed
returns-clause-listed c = listed_is_lost

pub returns-clause-complete : goal.returns-clause-complete
returns-clause-complete c = lost_is_listed
