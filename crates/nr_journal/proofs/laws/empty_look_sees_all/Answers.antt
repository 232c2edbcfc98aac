use Rattle.nr_journal.proofs.LawLemmas.{empty_look}
use Rattle.nr_journal.proofs.laws.empty_look_sees_all.Goals as goal

pub returns : goal.returns
returns c = empty_look
