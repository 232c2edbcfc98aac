use Rattle.nr_laws.proofs.WaitWordSetLemmas.{word_at_arm, word_at_swap}
use Rattle.nr_laws.proofs.well_formed.words_where_taken_up.Goals as goal

pub returns : goal.returns
returns c = record { arm = word_at_arm; swap = word_at_swap }
