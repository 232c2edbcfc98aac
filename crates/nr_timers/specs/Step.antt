-- What each operation does, and when it is refused.
use Rattle.std.specs.Prelude.{◌≡◌, ◌⊎◌, ℕ, ℤ, ◌^◌, ◌+◌, ◌-◌, ◌*◌, ◌<◌, int_le, true, List, [], ◌∷◌, ◌++◌, length, remove, Some, None}
use Rattle.nr_rev.specs.declared.sides.Side.{Side}
use Rattle.nr_rev.specs.declared.timer.Entry.{Entry}
use Rattle.nr_rev.specs.declared.timer.TimerFunction.{TimerFunction}
use Rattle.nr_timers.specs.declared.op.TimersOp.{TimersOp}
use Rattle.nr_timers.specs.declared.op.TimersOp.TheVariants.{Arm, Stop, Pop, TakeFiring}
use Rattle.nr_timers.specs.Order.{at}
use Rattle.nr_timers.specs.Change.{Inserted, Removed}
use Rattle.nr_timers.specs.Index.{key, key_of, Absent}
use Rattle.nr_timers.specs.TimersOf.{SetsTimer}
use Rattle.nr_timers.specs.State.{State, IsTimers}

-- true if the entry of the key was removed, or the key had none
abbrev pub Clears : ℕ → List Entry → List Entry → Type 0
Clears k old new =
    ((new ≡ old) × Absent k old)
    ⊎ ((p : ℕ) × (q : ℕ) × (p < length old) × (key (at old p) ≡ k) × Removed old p q new)

-- true if an entry was armed and replaced any earlier one of its descriptor's side
pub record Arms (old : State) (entry : Entry) (new : State) : Type 0 where
  pub descriptor : entry.descriptor < old.descriptors
  pub number : old.next < 2 ^ 64 - 1
  pub places : (mid : List Entry) × Clears (key entry) old.entries mid
      × ((q : ℕ) × Inserted mid entry q new.entries)
  pub timers : SetsTimer entry.descriptor entry.side (Some entry.timer) old.entries new.entries
  pub rest : new ≡ record old { entries = new.entries; next = old.next + 1 }

-- true if the timer of a descriptor's side was stopped, or the side had none
pub record Stops (old : State) (d : ℕ) (side : Side) (new : State) : Type 0 where
  pub descriptor : d < old.descriptors
  pub places : Clears (key_of d side) old.entries new.entries
  pub timers : SetsTimer d side None old.entries new.entries
  pub rest : new ≡ record old { entries = new.entries }

-- true if the least entry, which is due, moved to the end of the firings
pub record Pops (old : State) (now : ℤ) (new : State) : Type 0 where
  pub some : 0 < length old.entries
  pub due : int_le (at old.entries 0).timer.due now ≡ true
  pub room : length old.firings < 2 * old.descriptors
  pub places : (q : ℕ) × Removed old.entries 0 q new.entries
  pub timers : SetsTimer (at old.entries 0).descriptor (at old.entries 0).side None old.entries
      new.entries
  pub rest : new ≡ record old {
    entries = new.entries;
    firings = old.firings ++ at old.entries 0 ∷ [];
  }

-- true if a firing was removed
pub record TakesFiring (old : State) (place : ℕ) (new : State) : Type 0 where
  pub within : place < length old.firings
  pub rest : new ≡ record old { firings = remove old.firings place }

-- the entry of a timer that is being armed, with the next arming number
abbrev pub armed_entry : State → ℕ → Side → ℤ → TimerFunction → ℕ → Entry
armed_entry old d side due function sequence =
    record {
      descriptor = d;
      side = side;
      timer = record { due = due; number = old.next; function = function; sequence = sequence };
    }

-- true if the operation turns the old timers into the new ones
abbrev pub Makes : State → TimersOp → State → Type 0
Makes old (Arm d side due function sequence) new =
    Arms old (armed_entry old d side due function sequence) new
Makes old (Stop d side) new = Stops old d side new
Makes old (Pop now) new = Pops old now new
Makes old (TakeFiring place) new = TakesFiring old place new

-- true if the operation turns well-formed timers into the new ones; no operation returns a value
abbrev pub TimersStep : State → TimersOp → Unit {0} → State → Type 0
TimersStep old op answer new = IsTimers old × Makes old op new
