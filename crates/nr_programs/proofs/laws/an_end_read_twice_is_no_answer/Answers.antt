use Rattle.nr_programs.proofs.LieLemmas.{asked_again_refused}
use Rattle.nr_programs.proofs.laws.an_end_read_twice_is_no_answer.Goals as goal

pub returns : goal.returns
returns c = λ r journal tag. asked_again_refused r journal tag
