use Rattle.nr_suspects.proofs.LostWakeUpLemmas.{paid_if_none}
use Rattle.nr_suspects.proofs.laws.if_none_is_listed_each_event_was_tried.Goals as goal

pub returns : goal.returns
returns c = paid_if_none
