use Rattle.nr_protocol.proofs.SleepPositionLemmas.{zero_where_parked}
use Rattle.nr_protocol.proofs.sleep.on_linux_the_check_is_zero_where_a_goroutine_is_parked.Goals as goal

pub returns : goal.returns
returns c = zero_where_parked
