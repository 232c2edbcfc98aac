use Rattle.nr_suspects.proofs.FindingLemmas.{ended_is_listed, listed_is_so, passed_is_listed}
use Rattle.nr_suspects.proofs.WokenLemmas.{taken_back_is_listed}
use Rattle.nr_suspects.proofs.laws.just_what_came_of_deadlines_is_listed.Goals as goal

pub returns-clause-listed : goal.returns-clause-listed
returns-clause-listed c = listed_is_so

pub returns-clause-passed : goal.returns-clause-passed
returns-clause-passed c = passed_is_listed

pub returns-clause-ended : goal.returns-clause-ended
returns-clause-ended c = ended_is_listed

pub returns-clause-taken_back : goal.returns-clause-taken_back
returns-clause-taken_back c = taken_back_is_listed
