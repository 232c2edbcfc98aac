use Rattle.nr_suspects.proofs.SleeperLemmas.{listed_sleeps, sleeper_is_listed}
use Rattle.nr_suspects.proofs.laws.just_sleepers_are_listed.Goals as goal

pub returns-clause-listed : goal.returns-clause-listed
returns-clause-listed c = listed_sleeps

pub returns-clause-complete : goal.returns-clause-complete
returns-clause-complete c = sleeper_is_listed
