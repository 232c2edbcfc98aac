use Rattle.nr_suspects.proofs.LockedSideLemmas.{just_an_unlock_frees, unlock_frees, unlock_owes_a_waiter}
use Rattle.nr_suspects.proofs.laws.an_rwunlock_gives_a_side_back.Goals as goal

pub returns-clause-back : goal.returns-clause-back
returns-clause-back c = unlock_frees

pub returns-clause-unlocks : goal.returns-clause-unlocks
returns-clause-unlocks c = just_an_unlock_frees

pub returns-clause-owes : goal.returns-clause-owes
returns-clause-owes c = unlock_owes_a_waiter
