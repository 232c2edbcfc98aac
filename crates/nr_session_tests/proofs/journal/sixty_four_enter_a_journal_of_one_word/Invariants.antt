use Rattle.std.proofs.Common.{◌≡◌}
use Rattle.nr_session_tests.proofs.journal.sixty_four_enter_a_journal_of_one_word.Given as goal

abbrev pub invariant-loop-tag : goal.invariant-loop-tag
invariant-loop-tag g l = l.seat.table ≡ l.journal

abbrev pub invariant-loop : goal.invariant-loop
invariant-loop g l = l.seat.table ≡ l.journal
