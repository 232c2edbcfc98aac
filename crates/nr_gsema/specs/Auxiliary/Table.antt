-- Helper definitions for `Table`. The laws in THEOREM.md don't use them.
use Rattle.std.specs.Prelude.{ℕ, List, [], ◌∷◌, ◌-◌, length, slice_get, slice_set, Option, Some, None, option_map, if◌then◌else◌, ◌==◌}
use Rattle.nr_rev.specs.declared.sides.Side.{Side}
use Rattle.nr_rev.specs.declared.sides.Sides.{Sides}
use Rattle.nr_rev.specs.declared.status.Status.{Status}
use Rattle.nr_rev.specs.declared.status.Status.TheVariants.{Queued}
use Rattle.nr_rev.specs.Semaphore.{Semaphore}
use Rattle.nr_rev.specs.Sides.{of_side, with_side}
use Rattle.nr_gsema.specs.Table.{GoroutineTable}

-- the table with a new status of goroutine g
abbrev pub with_status : ℕ → Status → GoroutineTable → GoroutineTable
with_status g status t = record t { goroutines = slice_set t.goroutines g status }

-- the table with a new semaphore at one side of socket s; `semaphores` has the socket's old
-- semaphores
abbrev pub with_semaphore : ℕ → Side → Sides Semaphore → Semaphore → GoroutineTable → GoroutineTable
with_semaphore s side semaphores semaphore t =
    record t { semaphores = slice_set t.semaphores s (with_side side semaphore semaphores) }

-- the table after a change to the semaphore at one side of socket s, if the socket was found
abbrev pub on_found : ℕ → Side → (Semaphore → Semaphore) → Option (Sides Semaphore)
    → GoroutineTable → GoroutineTable
on_found s side change None t = t
on_found s side change (Some semaphores) t =
    with_semaphore s side semaphores (change (of_side side semaphores)) t

-- the table after a change to the semaphore at one side of socket s; the same table if the socket
-- doesn't exist
abbrev pub on_semaphore : ℕ → Side → (Semaphore → Semaphore) → GoroutineTable → GoroutineTable
on_semaphore s side change t = on_found s side change (slice_get t.semaphores s) t

-- the goroutines queued at a side, front first
abbrev pub queue_found : Side → Option (Sides Semaphore) → List ℕ
queue_found side None = []
queue_found side (Some semaphores) = (of_side side semaphores).queue

-- the goroutines queued at a side of socket s
abbrev pub queue_at : ℕ → Side → GoroutineTable → List ℕ
queue_at s side t = queue_found side (slice_get t.semaphores s)

-- the goroutine at the back of a queue
abbrev pub back_of : List ℕ → Option ℕ
back_of queue = slice_get queue (length queue - 1)

-- the goroutine after g in a queue
abbrev pub behind : ℕ → List ℕ → Option ℕ
behind g [] = None
behind g (h ∷ queue) = if h == g then slice_get queue 0 else behind g queue

-- the goroutine before g in a queue, or `first` if g is the queue's first goroutine
abbrev pub before : ℕ → Option ℕ → List ℕ → Option ℕ
before g first [] = None
before g first (h ∷ queue) = if h == g then first else before g (Some h) queue

-- what a search finds in the queue that a goroutine with this status is in; none if the goroutine
-- isn't queued
abbrev pub in_queue : (List ℕ → Option ℕ) → Option Status → GoroutineTable → Option ℕ
in_queue found (Some (Queued s side)) t = found (queue_at s side t)
in_queue found _ t = None

-- the goroutine after g in g's queue
abbrev pub next_in_queue : ℕ → GoroutineTable → Option ℕ
next_in_queue g t = in_queue (behind g) (slice_get t.goroutines g) t

-- the goroutine before g in g's queue
abbrev pub previous_of : ℕ → GoroutineTable → Option ℕ
previous_of g t = in_queue (before g None) (slice_get t.goroutines g) t

-- the count of a semaphore
abbrev pub count_at : ℕ → Side → GoroutineTable → Option ℕ
count_at s side t =
    option_map (λ (semaphores : Sides Semaphore). (of_side side semaphores).count)
    (slice_get t.semaphores s)
