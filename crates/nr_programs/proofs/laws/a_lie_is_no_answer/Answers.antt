use Rattle.nr_programs.proofs.LieLemmas.{lie_refused}
use Rattle.nr_programs.proofs.laws.a_lie_is_no_answer.Goals as goal

pub returns : goal.returns
returns c = λ r journal tag. lie_refused r journal tag
