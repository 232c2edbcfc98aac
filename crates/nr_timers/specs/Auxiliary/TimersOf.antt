-- Helper definitions for `TimersOf`. The laws in THEOREM.md don't use them.
use Rattle.std.specs.Prelude.{◌≡◌, ℕ, List, slice_index_or, Option, None}
use Rattle.nr_rev.specs.declared.sides.Sides.{Sides}
use Rattle.nr_rev.specs.declared.timer.Entry.{Entry}
use Rattle.nr_rev.specs.declared.timer.Timer.{Timer}
use Rattle.nr_rev.specs.Sides.{twice}
use Rattle.nr_timers.specs.TimersOf.{timers_of}

-- true if these are the timers of the descriptors, from number 0 on, and no other descriptor has
-- one
abbrev pub AreTimers : List Entry → List (Sides (Option Timer)) → Type 0
AreTimers entries timers = (d : ℕ) → timers_of entries d ≡ slice_index_or timers d (twice None)
