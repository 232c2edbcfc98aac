use Rattle.std.proofs.Common.{◌≡◌}
use Rattle.nr_hostile_tests.proofs.pair.step_often.Given as goal

abbrev pub invariant-loop : goal.invariant-loop
invariant-loop g l = l.front.table ≡ l.journal
