use Rattle.std.proofs.Common.{◌≡◌}
use Rattle.nr_session_tests.proofs.journal.place.Given as goal

abbrev pub invariant-loop : goal.invariant-loop
invariant-loop l = l.pass.table ≡ l.journal
