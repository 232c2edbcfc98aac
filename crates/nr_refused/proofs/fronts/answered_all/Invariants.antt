use Rattle.std.proofs.Common.{◌≡◌}
use Rattle.nr_refused.proofs.fronts.answered_all.Given as goal

abbrev pub invariant-loop-line : goal.invariant-loop-line
invariant-loop-line g l = l.front.table ≡ l.journal
