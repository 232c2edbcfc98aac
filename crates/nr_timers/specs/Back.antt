-- The undo of an operation, which stores at most one entry and some places.
use Rattle.std.specs.Prelude.{◌≡◌, ℕ, ◌+◌, ◌-◌, ◌*◌, ◌<◌, ◌≤◌, List, length, take, insert}
use Rattle.nr_rev.specs.declared.timer.Entry.{Entry}
use Rattle.nr_rev.specs.declared.timer.Timer.{Timer}
use Rattle.nr_rev.specs.Weight.{variant_weight, number_weight, timer_weight, entry_weight}
use Rattle.nr_timers.specs.declared.delta.TimersDelta.{TimersDelta}
use Rattle.nr_timers.specs.declared.delta.TimersUndo.{TimersUndo}
use Rattle.nr_timers.specs.declared.delta.TimersUndo.TheVariants.{Armed, Rearmed, Stopped, Still, Popped, Taken}
use Rattle.nr_timers.specs.declared.op.TimersOp.{TimersOp}
use Rattle.nr_timers.specs.declared.op.TimersOp.TheVariants.{Arm, Stop, Pop, TakeFiring}
use Rattle.nr_timers.specs.Order.{at}
use Rattle.nr_timers.specs.Auxiliary.Change.{InsertedBack, RemovedBack}
use Rattle.nr_timers.specs.Index.{Keyed}
use Rattle.nr_timers.specs.State.{State}

-- the entry at the place, with another timer
abbrev pub with_timer : List Entry → ℕ → Timer → Entry
with_timer entries place timer = record (at entries place) { timer = timer }

-- True if this undoes an arming that replaced no timer and put its entry at the place `to`. In the
-- old state, too, the entries had distinct keys below the limit.
pub record ArmedBack (to : ℕ) (new old : State) : Type 0 where
  pub places : InsertedBack to new.entries old.entries
  pub keyed : Keyed old.entries (2 * new.descriptors)
  pub number : new.next ≡ old.next + 1
  pub rest : old ≡ record new { entries = old.entries; next = old.next }

-- true if this undoes an arming that replaced a timer, and so removed the old entry first
pub record RearmedBack (to place last : ℕ) (timer : Timer) (new old : State) : Type 0 where
  pub places : (mid : List Entry) × InsertedBack to new.entries mid
      × RemovedBack place last (with_timer new.entries to timer) mid old.entries
  pub keyed : Keyed old.entries (2 * new.descriptors)
  pub number : new.next ≡ old.next + 1
  pub rest : old ≡ record new { entries = old.entries; next = old.next }

-- true if this undoes the removal of the entry at a place
pub record StoppedBack (place last : ℕ) (entry : Entry) (new old : State) : Type 0 where
  pub places : RemovedBack place last entry new.entries old.entries
  pub keyed : Keyed old.entries (2 * new.descriptors)
  pub rest : old ≡ record new { entries = old.entries }

-- true if this undoes a pop: the entry that is now the last firing was removed from place 0
pub record PoppedBack (last : ℕ) (new old : State) : Type 0 where
  pub some : 0 < length new.firings
  pub places : RemovedBack 0 last (at new.firings (length new.firings - 1)) new.entries old.entries
  pub keyed : Keyed old.entries (2 * new.descriptors)
  pub rest : old ≡ record new {
    entries = old.entries;
    firings = take (length new.firings - 1) new.firings;
  }

-- true if this undoes the removal of the firing at a place
pub record FiringBack (place : ℕ) (entry : Entry) (new old : State) : Type 0 where
  pub within : place ≤ length new.firings
  pub room : length new.firings < 2 * new.descriptors
  pub rest : old ≡ record new { firings = insert new.firings place entry }

-- true if the undo turns the new timers back into the old ones
abbrev pub UndoBack : TimersUndo → State → State → Type 0
UndoBack (Armed to) new old = ArmedBack to new old
UndoBack (Rearmed to place last timer) new old = RearmedBack to place last timer new old
UndoBack (Stopped place last entry) new old = StoppedBack place last entry new old
UndoBack Still new old = old ≡ new
UndoBack (Popped last) new old = PoppedBack last new old
UndoBack (Taken place entry) new old = FiringBack place entry new old

-- true if the delta's undo turns the new timers back into the old ones
abbrev pub TimersBack : TimersDelta → State → State → Type 0
TimersBack delta new old = UndoBack delta.undo new old

-- the number of words in an undo: those of its variant and all its fields
abbrev pub undo_weight : TimersUndo → ℕ
undo_weight (Armed to) = variant_weight + number_weight to
undo_weight (Rearmed to place last timer) =
    variant_weight + number_weight to + number_weight place + number_weight last
    + timer_weight timer
undo_weight (Stopped place last entry) =
    variant_weight + number_weight place + number_weight last + entry_weight entry
undo_weight Still = variant_weight
undo_weight (Popped last) = variant_weight + number_weight last
undo_weight (Taken place entry) = variant_weight + number_weight place + entry_weight entry

-- the number of words in a delta
abbrev pub delta_weight : TimersDelta → ℕ
delta_weight delta = undo_weight delta.undo

-- the maximum number of words in the undo of an operation
abbrev pub op_allowance : TimersOp → ℕ
op_allowance (Arm d side due function sequence) = 8
op_allowance (Stop d side) = 9
op_allowance (Pop now) = 2
op_allowance (TakeFiring place) = 8
