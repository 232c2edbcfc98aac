use Rattle.nr_programs.proofs.LieLemmas.{lie_no_run}
use Rattle.nr_programs.proofs.laws.a_lie_is_no_run.Goals as goal

pub returns : goal.returns
returns c = λ recording r is. lie_no_run recording r is
