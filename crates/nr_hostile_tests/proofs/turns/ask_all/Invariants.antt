use Rattle.std.proofs.Common.{◌≡◌}
use Rattle.nr_hostile_tests.proofs.turns.ask_all.Given as goal

abbrev pub invariant-loop-user : goal.invariant-loop-user
invariant-loop-user g l = (l.one.table ≡ l.journal) × (l.other.table ≡ l.journal)
