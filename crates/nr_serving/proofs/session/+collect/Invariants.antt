use Rattle.std.proofs.Common.{vec_len}
use Rattle.nr_serving.proofs.session.+collect.Given as goal

abbrev pub decreases-collect : goal.decreases-collect
decreases-collect l = vec_len l.done
