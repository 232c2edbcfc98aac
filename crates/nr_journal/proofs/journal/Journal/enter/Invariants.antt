use Rattle.std.proofs.Common.{◌≡◌, ◌≤◌, ◌-◌, []}
use Rattle.nr_journal.specs.declared.view.View.TheVariants.{Outside}
use Rattle.nr_journal.specs.Step.{Seat}
use Rattle.nr_journal.proofs.journal.Journal.enter.Given as goal

abbrev pub invariant-loop-tried : goal.invariant-loop-tried
invariant-loop-tried l = (◌≡◌ {A = Seat} l.seat.me (Outside l.tried l.passes, [])) × (l.seat.table_id ≡ l.fn.seat.table) × (l.tried ≤ l.passes) × (l.fn.seat.tried ≤ l.tried) × (l.passes ≡ l.fn.seat.passes) × (l.passes ≤ 64)

abbrev pub decreases-loop-tried : goal.decreases-loop-tried
decreases-loop-tried l = l.passes - l.tried
