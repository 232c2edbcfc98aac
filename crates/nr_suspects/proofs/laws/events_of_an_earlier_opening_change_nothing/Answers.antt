use Rattle.nr_suspects.proofs.TagLemmas.{done_just_if, earlier_is_stale, stale_just_if}
use Rattle.nr_suspects.proofs.laws.events_of_an_earlier_opening_change_nothing.Goals as goal

pub returns-clause-stale : goal.returns-clause-stale
returns-clause-stale c = stale_just_if

pub returns-clause-done : goal.returns-clause-done
returns-clause-done c = done_just_if

pub returns-clause-earlier : goal.returns-clause-earlier
returns-clause-earlier c = earlier_is_stale
