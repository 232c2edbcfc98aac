use Rattle.nr_suspects.proofs.LockedSideLemmas.{given_back_between, got_a_free_side, got_just_if, just_a_lock_locks, waits_at_a_locked_side}
use Rattle.nr_suspects.proofs.laws.one_goroutine_at_a_time_has_a_side.Goals as goal

pub returns-clause-answered : goal.returns-clause-answered
returns-clause-answered c = got_just_if

pub returns-clause-got : goal.returns-clause-got
returns-clause-got c = got_a_free_side

pub returns-clause-waits : goal.returns-clause-waits
returns-clause-waits c = waits_at_a_locked_side

pub returns-clause-locks : goal.returns-clause-locks
returns-clause-locks c = just_a_lock_locks

pub returns-clause-between : goal.returns-clause-between
returns-clause-between c = given_back_between
