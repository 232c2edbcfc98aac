use Rattle.nr_programs.proofs.LieLemmas.{unread_refused}
use Rattle.nr_programs.proofs.laws.an_unread_caller_is_not_answered.Goals as goal

pub returns : goal.returns
returns c = λ r journal tag. unread_refused r journal tag
