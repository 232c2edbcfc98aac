use Rattle.nr_programs.proofs.LieLemmas.{late_refused}
use Rattle.nr_programs.proofs.laws.a_late_reply_is_no_answer.Goals as goal

pub returns : goal.returns
returns c = λ r journal tag. late_refused r journal tag
