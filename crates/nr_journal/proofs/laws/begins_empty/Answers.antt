use Rattle.nr_journal.proofs.LawLemmas.{empty_at_first}
use Rattle.nr_journal.proofs.laws.begins_empty.Goals as goal

pub returns : goal.returns
returns c = empty_at_first
