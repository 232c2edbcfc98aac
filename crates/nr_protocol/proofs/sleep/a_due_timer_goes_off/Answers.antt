use Rattle.nr_protocol.proofs.TimerPopLemmas.{due_timer_pops}
use Rattle.nr_protocol.proofs.sleep.a_due_timer_goes_off.Goals as goal

pub returns : goal.returns
returns c = due_timer_pops
