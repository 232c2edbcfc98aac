-- Changes of a semaphore, and how to undo them.
use Rattle.std.specs.Prelude.{ℕ, ◌+◌, ◌-◌, [], ◌∷◌, ◌++◌, length, take, drop, Option, Some, None}
use Rattle.nr_rev.specs.Semaphore.{Semaphore}

-- the semaphore with the given count
abbrev pub with_count : ℕ → Semaphore → Semaphore
with_count count semaphore = record semaphore { count = count }

-- the semaphore with one more goroutine, at the back of its queue
abbrev pub with_last : ℕ → Semaphore → Semaphore
with_last g semaphore = record semaphore { queue = semaphore.queue ++ g ∷ [] }

-- a semaphore without the last goroutine of its queue
abbrev pub without_last : Semaphore → Semaphore
without_last semaphore =
    record semaphore { queue = take (length semaphore.queue - 1) semaphore.queue }

-- a semaphore after a release: the count is one greater, and the first goroutine, if any, has left
-- the queue
abbrev pub released_once : Semaphore → Semaphore
released_once semaphore = record { count = semaphore.count + 1; queue = drop 1 semaphore.queue }

-- the undo of an acquire: the count grows by one
abbrev pub unacquired : Semaphore → Semaphore
unacquired semaphore = record semaphore { count = semaphore.count + 1 }

-- the undo of a release: the count drops by one, and the goroutine that had left the queue, if any,
-- is at the front again
abbrev pub unreleased : Option ℕ → Semaphore → Semaphore
unreleased None semaphore = record semaphore { count = semaphore.count - 1 }
unreleased (Some g) semaphore = record { count = semaphore.count - 1; queue = g ∷ semaphore.queue }
