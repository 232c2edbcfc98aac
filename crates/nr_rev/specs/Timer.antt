-- Timers: entries, their order, and the firings that wait to be run.
use Rattle.std.specs.Prelude.{ℕ, ℤ, FitsSigned, ◌+◌, Bool, ◌&&◌, ◌||◌, nat_lt, int_lt, if◌then◌else◌, List, [], ◌∷◌, ◌++◌, Option, Some, None}
use Rattle.std.specs.Ordering.{int_eq}
use Rattle.std.specs.Int.{w64}
use Rattle.nr_rev.specs.declared.sides.Side.{Side}
use Rattle.nr_rev.specs.declared.sides.Side.TheVariants.{Read, Write}
use Rattle.nr_rev.specs.declared.sides.Sides.{Sides}
use Rattle.nr_rev.specs.declared.timer.Timer.{Timer}
use Rattle.nr_rev.specs.declared.timer.Entry.{Entry}

-- a time is a signed 64-bit number of nanoseconds
abbrev pub IsTime : ℤ → Type 0
IsTime t = FitsSigned w64 t

-- the order of timers: by due time, then by arming number
abbrev pub is_before : Timer → Timer → Bool
is_before a b = int_lt a.due b.due || (int_eq a.due b.due && nat_lt a.number b.number)

-- of one or two entries, the one whose timer goes off first
abbrev pub earlier_of : Entry → Option Entry → Entry
earlier_of e None = e
earlier_of e (Some other) = if is_before other.timer e.timer then other else e

-- the entry whose timer goes off before all others
abbrev pub least_of : List Entry → Option Entry
least_of [] = None
least_of (e ∷ es) = Some (earlier_of e (least_of es))

-- the heap's entry of a side of descriptor d, if a timer is armed there
abbrev pub entry_of : ℕ → Side → Option Timer → List Entry
entry_of d side None = []
entry_of d side (Some timer) = record { descriptor = d; side = side; timer = timer } ∷ []

-- the entries of descriptor d
abbrev pub entries_at : ℕ → Sides (Option Timer) → List Entry
entries_at d timers = entry_of d Read timers.read ++ entry_of d Write timers.write

-- the entries of consecutive descriptors, numbered from d, given the timers of each
abbrev pub entries_from : ℕ → List (Sides (Option Timer)) → List Entry
entries_from d [] = []
entries_from d (timers ∷ rest) = entries_at d timers ++ entries_from (d + 1) rest
