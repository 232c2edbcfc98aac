-- Each is computed.
use Rattle.std.proofs.Common.{refl}
use Rattle.std.specs.Fmt.{digits}
use Rattle.nr_programs.proofs.short.short_runs_have_their_replies.Goals as goal

pub returns-clause-lock_and_reference : goal.returns-clause-lock_and_reference
unfolding digits
returns-clause-lock_and_reference c = refl

pub returns-clause-watched_there_and_back : goal.returns-clause-watched_there_and_back
unfolding digits
returns-clause-watched_there_and_back c = refl

pub returns-clause-hit_at_the_start : goal.returns-clause-hit_at_the_start
unfolding digits
returns-clause-hit_at_the_start c = refl

pub returns-clause-no_step : goal.returns-clause-no_step
unfolding digits
returns-clause-no_step c = refl

pub returns-clause-counts : goal.returns-clause-counts
unfolding digits
returns-clause-counts c = refl

pub returns-clause-late_firing : goal.returns-clause-late_firing
unfolding digits
returns-clause-late_firing c = refl

pub returns-clause-last_moment : goal.returns-clause-last_moment
unfolding digits
returns-clause-last_moment c = refl

pub returns-clause-event_comes_first : goal.returns-clause-event_comes_first
unfolding digits
returns-clause-event_comes_first c = refl

pub returns-clause-event_of_a_first_life : goal.returns-clause-event_of_a_first_life
unfolding digits
returns-clause-event_of_a_first_life c = refl

pub returns-clause-lock_taken : goal.returns-clause-lock_taken
unfolding digits
returns-clause-lock_taken c = refl

pub returns-clause-bytes_come_back : goal.returns-clause-bytes_come_back
unfolding digits
returns-clause-bytes_come_back c = refl

pub returns-clause-checkpoints : goal.returns-clause-checkpoints
unfolding digits
returns-clause-checkpoints c = refl

pub returns-clause-quits_without_a_line_feed : goal.returns-clause-quits_without_a_line_feed
unfolding digits
returns-clause-quits_without_a_line_feed c = refl
