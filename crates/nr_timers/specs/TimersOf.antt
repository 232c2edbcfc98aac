-- The timers of a descriptor, looked up among the entries.
use Rattle.std.specs.Prelude.{◌≡◌, ◌≢◌, ℕ, Bool, ◌&&◌, ◌==◌, List, find, Option, option_map}
use Rattle.nr_rev.specs.declared.sides.Side.{Side}
use Rattle.nr_rev.specs.declared.sides.Side.TheVariants.{Read, Write}
use Rattle.nr_rev.specs.declared.sides.Sides.{Sides}
use Rattle.nr_rev.specs.declared.timer.Entry.{Entry}
use Rattle.nr_rev.specs.declared.timer.Timer.{Timer}
use Rattle.nr_rev.specs.Sides.{with_side, same_side}

-- true if the entry is for this side of descriptor d
abbrev pub is_for : ℕ → Side → Entry → Bool
is_for d side e = (e.descriptor == d) && same_side e.side side

-- the timer of descriptor d's side, if one is armed
abbrev pub timer_of : List Entry → ℕ → Side → Option Timer
timer_of entries d side = option_map (λ (e : Entry). e.timer) (find (is_for d side) entries)

-- the timers of both sides
abbrev pub timers_of : List Entry → ℕ → Sides (Option Timer)
timers_of entries d = record { read = timer_of entries d Read; write = timer_of entries d Write }

-- true if the timer of descriptor d's side is now this one, or none, and all others are unchanged
pub record SetsTimer (d : ℕ) (side : Side) (timer : Option Timer) (old new : List Entry) : Type 0
  where
    pub here : timers_of new d ≡ with_side side timer (timers_of old d)
    pub others : (k : ℕ) → k ≢ d → timers_of new k ≡ timers_of old k
