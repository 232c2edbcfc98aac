use Rattle.std.proofs.Common.{◌≡◌}
use Rattle.nr_hostile_tests.proofs.pair.wait_for_both.Given as goal

abbrev pub invariant-loop : goal.invariant-loop
invariant-loop g l = l.front.table ≡ l.journal
