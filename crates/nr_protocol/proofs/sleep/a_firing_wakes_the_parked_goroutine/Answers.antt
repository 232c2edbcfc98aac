use Rattle.nr_protocol.proofs.FiringWakeLemmas.{firing_wakes}
use Rattle.nr_protocol.proofs.sleep.a_firing_wakes_the_parked_goroutine.Goals as goal

pub returns : goal.returns
returns c = firing_wakes
