use Rattle.nr_protocol.proofs.DeadlineTimerStepLemmas.{step_keeps_timers}
use Rattle.nr_protocol.proofs.sleep.steps_keep_deadlines_timed.Goals as goal

pub returns : goal.returns
returns c = step_keeps_timers
