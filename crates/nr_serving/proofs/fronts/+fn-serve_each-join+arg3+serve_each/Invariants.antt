use Rattle.std.proofs.Common.{vec_len, ◌+◌, ◌*◌}
use Rattle.nr_serving.proofs.fronts.+fn-serve_each-join+arg3+serve_each.Given as goal

abbrev pub decreases-join+arg3 : goal.decreases-join+arg3
decreases-join+arg3 g l = 2 * vec_len l.fronts + 1

abbrev pub decreases-serve_each : goal.decreases-serve_each
decreases-serve_each g l = 2 * vec_len l.fronts
