-- Each is computed.
use Rattle.std.proofs.Common.{refl}
use Rattle.std.specs.Fmt.{digits}
use Rattle.nr_programs.proofs.short.what_two_fronts_meet_is_answered.Goals as goal

pub returns-clause-forward_first : goal.returns-clause-forward_first
unfolding digits
returns-clause-forward_first c = refl

pub returns-clause-then_back : goal.returns-clause-then_back
unfolding digits
returns-clause-then_back c = refl

pub returns-clause-back_first : goal.returns-clause-back_first
unfolding digits
returns-clause-back_first c = refl

pub returns-clause-then_forward : goal.returns-clause-then_forward
unfolding digits
returns-clause-then_forward c = refl

pub returns-clause-journal_of_one : goal.returns-clause-journal_of_one
unfolding digits
returns-clause-journal_of_one c = refl

pub returns-clause-search_without_memory : goal.returns-clause-search_without_memory
unfolding digits
returns-clause-search_without_memory c = refl
