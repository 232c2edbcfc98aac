use Rattle.std.proofs.Common.{◌≡◌}
use Rattle.nr_hostile_tests.proofs.crowd.eight.Given as goal

abbrev pub invariant-loop : goal.invariant-loop
invariant-loop g l = l.seat.table ≡ l.journal
