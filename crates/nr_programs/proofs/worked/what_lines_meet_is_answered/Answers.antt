-- Each is computed.
use Rattle.std.proofs.Common.{refl}
use Rattle.std.specs.Fmt.{digits}
use Rattle.nr_programs.proofs.worked.what_lines_meet_is_answered.Goals as goal

pub returns-clause-refused_look : goal.returns-clause-refused_look
unfolding digits
returns-clause-refused_look c = refl

pub returns-clause-refused_search : goal.returns-clause-refused_search
unfolding digits
returns-clause-refused_search c = refl

pub returns-clause-full_journal : goal.returns-clause-full_journal
unfolding digits
returns-clause-full_journal c = refl

pub returns-clause-word_of_another : goal.returns-clause-word_of_another
unfolding digits
returns-clause-word_of_another c = refl
