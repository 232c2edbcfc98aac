use Rattle.nr_journal.proofs.AloneLemmas.{only_sees_all}
use Rattle.nr_journal.proofs.laws.an_only_pass_sees_all.Goals as goal

pub returns : goal.returns
returns c = only_sees_all
