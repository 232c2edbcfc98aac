-- The deltas of steps: the undos of their changes, from the last to the first.
use Rattle.std.specs.Prelude.{◌≡◌, ℕ, ◌+◌, ◌-◌, ◌<◌, Bool, true, false, ◌∷◌, length, take, drop, slice_get, slice_set, Option, Some}
use Rattle.nr_rev.specs.Weight.{bool_weight, number_weight, option_weight, sides_weight, time_weight, variant_weight}
use Rattle.nr_rev.specs.declared.sides.Sides.{Sides}
use Rattle.nr_desc.specs.Delta as desc
use Rattle.nr_gsema.specs.Delta as goroutine
use Rattle.nr_lock.specs.Delta as lock
use Rattle.nr_sockbuf.specs.Delta as sock
use Rattle.nr_sockbuf.specs.Sock.{SockParts}
use Rattle.nr_sockbuf.specs.declared.delta.SockDelta.{SockDelta}
use Rattle.nr_timers.specs.Back as timers
use Rattle.nr_timers.specs.declared.delta.TimersDelta.{TimersDelta}
use Rattle.nr_machine.specs.declared.world_core.Core.{Core}
use Rattle.nr_machine.specs.declared.delta.DescUndo.{DescUndo}
use Rattle.nr_machine.specs.declared.delta.LockUndo.{LockUndo}
use Rattle.nr_machine.specs.declared.delta.WorldDelta.{WorldDelta}
use Rattle.nr_machine.specs.declared.delta.WorldUndo.{WorldUndo}
use Rattle.nr_machine.specs.declared.delta.WorldUndo.TheVariants.{Still, Goroutine, Locked, Sock, Opened, Made, Reopened, Closed, Described, Waited, Clock, Timers, Changed}
use Rattle.nr_machine.specs.Auxiliary.Changing.{DescBack, GoroutineBack, IfAny, LockBack, Same, Then, TimersBack, WakeBack}
use Rattle.nr_machine.specs.World.{WorldParts}

-- ---- undos of the core

-- undoes adding a waiter
abbrev pub ParkBack : Bool → Core → Core → Type 0
ParkBack true new old = (0 < new.waiters) × (old ≡ record new { waiters = new.waiters - 1 })
ParkBack false new old = old ≡ new

-- undoes adding the last descriptor
abbrev pub MadeBack : Core → Core → Type 0
MadeBack new old =
    old ≡ record new {
      descriptors = record new.descriptors
          { items = take (length new.descriptors.items - 1) new.descriptors.items };
    }

-- undoes adding the last lock
abbrev pub AddBack : Core → Core → Type 0
AddBack new old =
    old ≡ record new {
      locks = record new.locks
          { items = take (length new.locks.items - 1) new.locks.items };
    }

-- undoes taking the first free descriptor
abbrev pub TakeBack : ℕ → Core → Core → Type 0
TakeBack d new old =
    (length new.free.items < new.free.room)
    × (old ≡ record new { free = record new.free { items = d ∷ new.free.items } })

-- undoes putting a descriptor at the front of the free list
abbrev pub GiveBack : Core → Core → Type 0
GiveBack new old = old ≡ record new { free = record new.free { items = drop 1 new.free.items } }

-- undoes timer orders that were carried out for the read side and then for the write side
abbrev pub ObeyBack : Sides (Option TimersDelta) → Core → Core → Type 0
ObeyBack both = Then (IfAny TimersBack both.write) (IfAny TimersBack both.read)

-- undoes waking the reader and then the writer
abbrev pub WokenBack : Sides (Option ℕ) → Core → Core → Type 0
WokenBack both = Then (IfAny WakeBack both.write) (IfAny WakeBack both.read)

-- ---- undos of the whole world

-- undoes a change to the core only
abbrev pub OfCore : (Core → Core → Type 0) → WorldParts → WorldParts → Type 0
OfCore back new old = back new.core old.core × (old.socks ≡ new.socks)

-- undoes a change to the buffers of socket s
pub record SockBack (s : ℕ) (delta : SockDelta) (new old : WorldParts) : Type 0 where
  pub before : SockParts
  pub after : SockParts
  pub there : slice_get new.socks s ≡ Some after
  pub back : sock.LeadsBack delta after before
  pub rest : old ≡ record new { socks = slice_set new.socks s before }

-- undoes opening the socket that was opened last
abbrev pub OpenedBack : SockDelta → WorldParts → WorldParts → Type 0
OpenedBack delta new old =
    Then (OfCore AddBack) (SockBack (length new.core.locks.items - 1) delta) new old

-- true if the undo turns the new parts back into the old ones
abbrev pub UndoBack : WorldUndo → WorldParts → WorldParts → Type 0
UndoBack Still = OfCore Same
UndoBack (Goroutine delta) = OfCore (GoroutineBack delta)
UndoBack (Locked lock moved) = OfCore (Then (IfAny GoroutineBack moved) (LockBack lock))
UndoBack (Sock s delta) = SockBack s delta
UndoBack (Opened delta) = OpenedBack delta
UndoBack Made = OfCore MadeBack
UndoBack (Reopened desc) = OfCore (Then (DescBack desc) (TakeBack desc.descriptor))
UndoBack (Closed desc) = OfCore (Then GiveBack (DescBack desc))
UndoBack (Described desc) = OfCore (DescBack desc)
UndoBack (Waited desc moved parked) =
    OfCore (Then (ParkBack parked) (Then (GoroutineBack moved) (DescBack desc)))
UndoBack (Clock before) = OfCore (λ new old. old ≡ record new { clock = before })
UndoBack (Timers delta) = OfCore (TimersBack delta)
UndoBack (Changed desc both woken) =
    OfCore (Then (WokenBack woken) (Then (DescBack desc) (ObeyBack both)))

-- true if undoing the delta turns the new parts back into the old ones
abbrev pub WorldBack : WorldDelta → WorldParts → WorldParts → Type 0
WorldBack delta = UndoBack delta.undo

-- ---- weights

-- the weight of a lock's old value and of its socket's number
abbrev pub lock_weight : LockUndo → ℕ
lock_weight undo = number_weight undo.socket + lock.delta_weight undo.before

-- the weight of a descriptor's old value and of its number
abbrev pub desc_weight : DescUndo → ℕ
desc_weight undo = number_weight undo.descriptor + desc.delta_weight undo.before

-- the number of words in an undo
abbrev pub undo_weight : WorldUndo → ℕ
undo_weight Still = variant_weight
undo_weight (Goroutine delta) = variant_weight + goroutine.delta_weight delta
undo_weight (Locked lock moved) =
    variant_weight + lock_weight lock + option_weight goroutine.delta_weight moved
undo_weight (Sock s delta) = variant_weight + number_weight s + sock.delta_weight delta
undo_weight (Opened delta) = variant_weight + sock.delta_weight delta
undo_weight Made = variant_weight
undo_weight (Reopened desc) = variant_weight + desc_weight desc
undo_weight (Closed desc) = variant_weight + desc_weight desc
undo_weight (Described desc) = variant_weight + desc_weight desc
undo_weight (Waited desc moved parked) =
    variant_weight + desc_weight desc + goroutine.delta_weight moved + bool_weight parked
undo_weight (Clock before) = variant_weight + time_weight before
undo_weight (Timers delta) = variant_weight + timers.delta_weight delta
undo_weight (Changed desc both woken) =
    variant_weight + desc_weight desc + sides_weight (option_weight timers.delta_weight) both
    + sides_weight (option_weight number_weight) woken

-- the number of words in a delta
abbrev pub delta_weight : WorldDelta → ℕ
delta_weight delta = undo_weight delta.undo
