-- Helper definitions for `Changing`. The laws in THEOREM.md don't use them.
use Rattle.std.specs.Prelude.{◌≡◌, ℕ, ◌+◌, ◌-◌, ◌^◌, ◌<◌, ◌≤◌, true, length, slice_get, slice_set, Option, Some, None, Result}
use Rattle.nr_rev.specs.declared.descriptor.Descriptor.{Descriptor}
use Rattle.nr_rev.specs.declared.lock.Lock.{Lock}
use Rattle.nr_rev.specs.declared.lock.LockOutcome.{LockOutcome}
use Rattle.nr_rev.specs.declared.refusal.Refusal.{Refusal}
use Rattle.nr_rev.specs.declared.refusal.Refusal.TheVariants.{NoSuchSocket}
use Rattle.nr_rev.specs.declared.sides.Side.{Side}
use Rattle.nr_rev.specs.declared.status.Status.{Status}
use Rattle.nr_rev.specs.declared.status.Status.TheVariants.{Parked, Swapping}
use Rattle.nr_rev.specs.Refusing.{◌>>=◌, found_or}
use Rattle.nr_rev.specs.Weight.{option_weight}
use Rattle.nr_rev.specs.WellFormed.{LockFits, socket_named}
use Rattle.nr_desc.specs.Desc.{DescFits}
use Rattle.nr_desc.specs.Auxiliary.Op as desc_op
use Rattle.nr_desc.specs.declared.op.DescAnswer.{DescAnswer}
use Rattle.nr_desc.specs.declared.op.DescOp.{DescOp}
use Rattle.nr_gsema.specs.Applying.{IsQueuedUp}
use Rattle.nr_gsema.specs.Delta as goroutine
use Rattle.nr_gsema.specs.Step as step
use Rattle.nr_gsema.specs.Auxiliary.Table as table
use Rattle.nr_gsema.specs.declared.delta.GDelta.{GDelta}
use Rattle.nr_lock.specs.Op as lock_op
use Rattle.nr_lock.specs.declared.op.LockAnswer.{LockAnswer}
use Rattle.nr_lock.specs.declared.op.LockOp.{LockOp}
use Rattle.nr_timers.specs.Back as timers
use Rattle.nr_timers.specs.declared.delta.TimersDelta.{TimersDelta}
use Rattle.nr_machine.specs.declared.world_core.Core.{Core}
use Rattle.nr_machine.specs.declared.delta.DescUndo.{DescUndo}
use Rattle.nr_machine.specs.declared.delta.LockUndo.{LockUndo}

-- the core after goroutine g gets this status
abbrev pub with_status : ℕ → Status → Core → Core
with_status g status core =
    record core { goroutines = table.with_status g status core.goroutines }

-- the core after socket s gets this lock
abbrev pub with_lock : ℕ → Lock → Core → Core
with_lock s lock core =
    record core { locks = record core.locks { items = slice_set core.locks.items s lock } }

-- the core after descriptor d gets this value
abbrev pub with_descriptor : ℕ → Descriptor → Core → Core
with_descriptor d x core =
    record core
    { descriptors = record core.descriptors { items = slice_set core.descriptors.items d x } }

-- the core after goroutine g, which was parked at d's side, continues
abbrev pub woken : ℕ → ℕ → Side → Core → Core
woken g d side core = record (with_status g (Swapping d side) core) { waiters = core.waiters - 1 }

-- the core after goroutine g parks at d's side
abbrev pub parked : ℕ → ℕ → Side → Core → Core
parked g d side core = record (with_status g (Parked d side) core) { waiters = core.waiters + 1 }

-- ---- undoing

-- undoes a change with `first`, and then the change before it with `next`
abbrev pub Then : {S : Type 0} → (S → S → Type 0) → (S → S → Type 0) → S → S → Type 0
Then {S} first next new old = (mid : S) × first new mid × next mid old

-- nothing changed
abbrev pub Same : Core → Core → Type 0
Same new old = old ≡ new

-- undoes a change, if one was made
abbrev pub IfAny : {A : Type 0} → (A → Core → Core → Type 0) → Option A → Core → Core → Type 0
IfAny back None = Same
IfAny back (Some a) = back a

-- undoes a change to goroutines and semaphores
abbrev pub GoroutineBack : GDelta → Core → Core → Type 0
GoroutineBack delta new old =
    goroutine.LeadsBack delta new.goroutines old.goroutines
    × (old ≡ record new { goroutines = old.goroutines })

-- undoes a change to a lock
abbrev pub LockBack : LockUndo → Core → Core → Type 0
LockBack undo new old = old ≡ with_lock undo.socket undo.before.before new

-- undoes a change to a descriptor
abbrev pub DescBack : DescUndo → Core → Core → Type 0
DescBack undo new old = old ≡ with_descriptor undo.descriptor undo.before.before new

-- undoes a change to timers
abbrev pub TimersBack : TimersDelta → Core → Core → Type 0
TimersBack delta new old =
    timers.TimersBack delta new.timers old.timers × (old ≡ record new { timers = old.timers })

-- undoes a wake: goroutine g, which continues from a side, is parked there again
pub record WakeBack (g : ℕ) (new old : Core) : Type 0 where
  pub d : ℕ
  pub side : Side
  pub there : slice_get new.goroutines.goroutines g ≡ Some (Swapping d side)
  pub queued : IsQueuedUp new.goroutines
  pub few : new.waiters + 1 < 2 ^ 64
  pub rest : old ≡ parked g d side new

-- ---- the results of operations

-- true if the operation changes the lock of socket s from before to after
pub record Locks (old : Core) (s : ℕ) (op : LockOp) (before after : Lock) (answer : LockAnswer)
    (undo : LockUndo) (new : Core) : Type 0 where
  pub there : slice_get old.locks.items s ≡ Some before
  pub step : lock_op.StepTo before op answer after
  pub rest : new ≡ with_lock s after old
  pub fits : LockFits after
  pub back : LockBack undo new old

-- true if the operation changes the lock of socket s
abbrev pub LocksSome : Core → ℕ → LockOp → LockAnswer × LockUndo → Core → Type 0
LocksSome old s op (answer, undo) new =
    (before : Lock) × (after : Lock) × Locks old s op before after answer undo new

-- the outcome of the operation; refused for reason 4 (no such socket) if socket s has no lock
abbrev pub lock_outcome : ℕ → LockOp → Core → Result LockOutcome Refusal
lock_outcome s op core =
    found_or (slice_get core.locks.items s) NoSuchSocket >>= λ lock. lock_op.outcome lock op

-- true if the operation changes descriptor d from before to after
pub record Describes (old : Core) (d : ℕ) (op : DescOp) (before after : Descriptor)
    (answer : DescAnswer) (undo : DescUndo) (new : Core) : Type 0 where
  pub there : slice_get old.descriptors.items d ≡ Some before
  pub step : desc_op.StepTo before op answer after
  pub rest : new ≡ with_descriptor d after old
  pub fits : DescFits after
  pub back : DescBack undo new old

-- true if the operation changes descriptor d
abbrev pub DescribesSome : Core → ℕ → DescOp → DescAnswer × DescUndo → Core → Type 0
DescribesSome old d op (answer, undo) new =
    (before : Descriptor) × (after : Descriptor)
    × Describes old d op before after answer undo new

-- true if goroutine g moves to a status, with a delta of at most 6 words
pub record Moves (old : Core) (g : ℕ) (to : Status) (delta : GDelta) (new : Core) : Type 0 where
  pub rest : new ≡ with_status g to old
  pub queued : IsQueuedUp new.goroutines
  pub back : GoroutineBack delta new old
  pub light : goroutine.delta_weight delta ≤ 6

-- true if goroutine g moves to a status or already has it
pub record MovesOn (old : Core) (g : ℕ) (to : Status) (delta : Option GDelta) (new : Core) : Type 0
  where
    pub rest : new ≡ with_status g to old
    pub queued : IsQueuedUp new.goroutines
    pub back : IfAny GoroutineBack delta new old
    pub light : option_weight goroutine.delta_weight delta ≤ 7

-- true if goroutine g has the first status and may move to the second
pub record CanMove (core : Core) (g : ℕ) (from to : Status) : Type 0 where
  pub there : slice_get core.goroutines.goroutines g ≡ Some from
  pub from_movable : step.is_movable from ≡ true
  pub to_movable : step.is_movable to ≡ true
  pub named : step.names_within (length core.goroutines.semaphores) (socket_named to) ≡ true
  pub queued : IsQueuedUp core.goroutines
