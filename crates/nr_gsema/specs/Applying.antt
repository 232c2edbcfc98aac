-- What makes a table well formed: its queues contain exactly the queued goroutines.
use Rattle.std.specs.Prelude.{◌≡◌, ℕ, ◌==◌, count_by, slice_get, Some}
use Rattle.nr_rev.specs.declared.sides.Side.{Side}
use Rattle.nr_rev.specs.declared.sides.Sides.{Sides}
use Rattle.nr_rev.specs.Lock.{bit}
use Rattle.nr_rev.specs.Semaphore.{Semaphore}
use Rattle.nr_rev.specs.Sides.{of_side}
use Rattle.nr_rev.specs.WellFormed.{is_queued}
use Rattle.nr_gsema.specs.Table.{GoroutineTable}

-- true if the queue of a semaphore contains exactly the goroutines with that queued status, each
-- once
pub record IsQueuedUp (t : GoroutineTable) : Type 0 where
  pub queued : (s : ℕ) (side : Side) (both : Sides Semaphore)
      → slice_get t.semaphores s ≡ Some both → (g : ℕ)
      → count_by (λ h. h == g) (of_side side both).queue
      ≡ bit (is_queued s side (slice_get t.goroutines g))
