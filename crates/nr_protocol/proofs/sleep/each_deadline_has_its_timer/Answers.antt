use Rattle.nr_protocol.proofs.DeadlinePassLemmas.{deadlines_will_pass}
use Rattle.nr_protocol.proofs.sleep.each_deadline_has_its_timer.Goals as goal

pub returns : goal.returns
returns c = deadlines_will_pass
