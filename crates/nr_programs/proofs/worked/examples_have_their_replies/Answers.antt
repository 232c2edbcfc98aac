-- Each is computed.
use Rattle.std.proofs.Common.{refl}
use Rattle.std.specs.Fmt.{digits}
use Rattle.nr_programs.proofs.worked.examples_have_their_replies.Goals as goal

pub returns-clause-first : goal.returns-clause-first
unfolding digits
returns-clause-first c = refl

pub returns-clause-leaked_reference : goal.returns-clause-leaked_reference
unfolding digits
returns-clause-leaked_reference c = refl

pub returns-clause-lost_wakeup : goal.returns-clause-lost_wakeup
unfolding digits
returns-clause-lost_wakeup c = refl

pub returns-clause-past_deadline : goal.returns-clause-past_deadline
unfolding digits
returns-clause-past_deadline c = refl

pub returns-clause-reused_descriptor : goal.returns-clause-reused_descriptor
unfolding digits
returns-clause-reused_descriptor c = refl

pub returns-clause-stale_deadline : goal.returns-clause-stale_deadline
unfolding digits
returns-clause-stale_deadline c = refl

pub returns-clause-temporary_break : goal.returns-clause-temporary_break
unfolding digits
returns-clause-temporary_break c = refl

pub returns-clause-answers : goal.returns-clause-answers
unfolding digits
returns-clause-answers c = refl

pub returns-clause-shut_write_side : goal.returns-clause-shut_write_side
unfolding digits
returns-clause-shut_write_side c = refl
