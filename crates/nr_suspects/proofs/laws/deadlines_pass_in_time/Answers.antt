use Rattle.nr_suspects.proofs.DeadlineLemmas.{fires_in_time, stale_keeps}
use Rattle.nr_suspects.proofs.laws.deadlines_pass_in_time.Goals as goal

pub returns-clause-done : goal.returns-clause-done
returns-clause-done c = fires_in_time

pub returns-clause-stale : goal.returns-clause-stale
returns-clause-stale c = stale_keeps
