-- The undo of an operation: the table that it restores, the tables to which it can be applied, and
-- its number of words.
use Rattle.std.specs.Prelude.{◌≡◌, ℕ, ◌+◌, ◌-◌, ◌^◌, ◌<◌, false, length, take, slice_get, Option, Some, None, option_map}
use Rattle.nr_rev.specs.declared.sides.Side.{Side}
use Rattle.nr_rev.specs.declared.sides.Sides.{Sides}
use Rattle.nr_rev.specs.declared.status.Status.TheVariants.{Idle, Acquiring, Queued, Owing}
use Rattle.nr_rev.specs.Semaphore.{Semaphore}
use Rattle.nr_rev.specs.Sides.{of_side}
use Rattle.nr_rev.specs.Weight.{variant_weight, number_weight, side_weight, status_weight, option_weight}
use Rattle.nr_gsema.specs.declared.delta.GDelta.{GDelta}
use Rattle.nr_gsema.specs.declared.delta.GUndo.{GUndo}
use Rattle.nr_gsema.specs.declared.delta.GUndo.TheVariants as undo
use Rattle.nr_gsema.specs.declared.operation.GOperation.{GOperation}
use Rattle.nr_gsema.specs.declared.operation.GOperation.TheVariants as operation
use Rattle.nr_gsema.specs.Links.{is_waiting}
use Rattle.nr_gsema.specs.SemaphoreChange.{unacquired, unreleased, without_last}
use Rattle.nr_gsema.specs.Step.{side_owed}
use Rattle.nr_gsema.specs.Table.{GoroutineTable}
use Rattle.nr_gsema.specs.Auxiliary.Table.{with_status, on_semaphore}

-- the table with the goroutine that left the queue, if any, queued again
abbrev pub queued_again : ℕ → Side → Option ℕ → GoroutineTable → GoroutineTable
queued_again s side None t = t
queued_again s side (Some g) t = with_status g (Queued s side) t

-- the table after the undo of a release at a side of socket s
abbrev pub released_back : ℕ → Side → Option ℕ → GoroutineTable → GoroutineTable
released_back s side front t = queued_again s side front (on_semaphore s side (unreleased front) t)

-- the releases of both sides
abbrev pub owed : ℕ → ℕ → Sides ℕ
owed reads writes = record { read = reads; write = writes }

-- the table after an undo
abbrev pub undone : GUndo → GoroutineTable → GoroutineTable
undone undo.Spawned t = record t { goroutines = take (length t.goroutines - 1) t.goroutines }
undone (undo.Moved g status) t = with_status g status t
undone (undo.Acquired g s side) t =
    with_status g (Acquiring s side) (on_semaphore s side unacquired t)
undone (undo.Queued g s side) t =
    with_status g (Acquiring s side) (on_semaphore s side without_last t)
undone (undo.Released g s reads writes front) t =
    with_status g (Owing s reads writes) (released_back s (side_owed (owed reads writes)) front t)

-- true if goroutine g exists and isn't queued
abbrev pub IsOutside : ℕ → GoroutineTable → Type 0
IsOutside g t = option_map is_waiting (slice_get t.goroutines g) ≡ Some false

-- true if socket s is below the limit, and the semaphore at one side of it has this property
abbrev pub HasSemaphore : ℕ → Side → (Semaphore → Type 0) → GoroutineTable → Type 0
HasSemaphore s side P t =
    (both : Sides Semaphore) × (slice_get t.semaphores s ≡ Some both) × P (of_side side both)

-- true if the goroutine that left the queue, if any, exists and isn't queued
abbrev pub CanRequeue : Option ℕ → GoroutineTable → Type 0
CanRequeue None t = Unit {0}
CanRequeue (Some g) t = IsOutside g t

-- true if what the undo removes exists, and there is room for what it restores
abbrev pub CanUndo : GUndo → GoroutineTable → Type 0
CanUndo undo.Spawned t = slice_get t.goroutines (length t.goroutines - 1) ≡ Some Idle
CanUndo (undo.Moved g status) t = (is_waiting status ≡ false) × IsOutside g t
CanUndo (undo.Acquired g s side) t =
    IsOutside g t × HasSemaphore s side (λ semaphore. semaphore.count + 1 < 2 ^ 32) t
CanUndo (undo.Queued g s side) t =
    HasSemaphore s side (λ semaphore. slice_get semaphore.queue (length semaphore.queue - 1)
    ≡ Some g) t
CanUndo (undo.Released g s reads writes front) t =
    IsOutside g (released_back s (side_owed (owed reads writes)) front t) × CanRequeue front t
    × HasSemaphore s (side_owed (owed reads writes)) (λ semaphore. 0 < semaphore.count) t

-- true if the undo turns the new table back into the old one
abbrev pub Reverses : GUndo → GoroutineTable → GoroutineTable → Type 0
Reverses undo new old = CanUndo undo new × (old ≡ undone undo new)

-- true if undoing the delta turns the new table back into the old one
abbrev pub LeadsBack : GDelta → GoroutineTable → GoroutineTable → Type 0
LeadsBack delta new old = Reverses delta.undo new old

-- the number of words in an undo
abbrev pub undo_weight : GUndo → ℕ
undo_weight undo.Spawned = variant_weight
undo_weight (undo.Moved g status) = variant_weight + number_weight g + status_weight status
undo_weight (undo.Acquired g s side) =
    variant_weight + number_weight g + number_weight s + side_weight side
undo_weight (undo.Queued g s side) =
    variant_weight + number_weight g + number_weight s + side_weight side
undo_weight (undo.Released g s reads writes front) =
    variant_weight + number_weight g + number_weight s + number_weight reads + number_weight writes
    + option_weight number_weight front

-- the number of words in a delta
abbrev pub delta_weight : GDelta → ℕ
delta_weight delta = undo_weight delta.undo

-- the maximum number of words in an operation's delta
abbrev pub weight_allowed : GOperation → ℕ
weight_allowed operation.Spawn = 1
weight_allowed (operation.Exit g) = 3
weight_allowed (operation.Move g from to) = 2 + status_weight from
weight_allowed (operation.Acquire g) = 4
weight_allowed (operation.Release g) = 7
