use Rattle.nr_protocol.proofs.DeadlinePassLemmas.{sleepers_will_wake}
use Rattle.nr_protocol.proofs.SleepPositionLemmas.{check_where_parked, none_oversleeps}
use Rattle.nr_protocol.proofs.sleep.no_goroutine_sleeps_past_a_close_or_a_deadline.Goals as goal

pub returns-clause-not_closing : goal.returns-clause-not_closing
returns-clause-not_closing c r n g d side row room timely shows at = (none_oversleeps r n g d side row room timely shows at).0

pub returns-clause-not_expired : goal.returns-clause-not_expired
returns-clause-not_expired c r n g d side row room timely shows at = (none_oversleeps r n g d side row room timely shows at).1

pub returns-clause-checked : goal.returns-clause-checked
returns-clause-checked c = check_where_parked

pub returns-clause-timed : goal.returns-clause-timed
returns-clause-timed c = sleepers_will_wake
