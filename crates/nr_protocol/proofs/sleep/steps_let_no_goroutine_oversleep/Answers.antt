use Rattle.nr_protocol.proofs.SleepStepLemmas.{step_keeps_sleepers}
use Rattle.nr_protocol.proofs.sleep.steps_let_no_goroutine_oversleep.Goals as goal

pub returns : goal.returns
returns c = step_keeps_sleepers
