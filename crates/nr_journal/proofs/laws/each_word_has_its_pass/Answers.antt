use Rattle.nr_journal.proofs.LawLemmas.{each_word}
use Rattle.nr_journal.proofs.laws.each_word_has_its_pass.Goals as goal

pub returns : goal.returns
returns c = each_word
