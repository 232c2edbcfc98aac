-- Pairs of values, one for reading and one for writing.
use Rattle.std.specs.Prelude.{Bool, true, false}
use Rattle.nr_rev.specs.declared.sides.Side.{Side}
use Rattle.nr_rev.specs.declared.sides.Side.TheVariants.{Read, Write}
use Rattle.nr_rev.specs.declared.sides.Mode.{Mode}
use Rattle.nr_rev.specs.declared.timer.TimerFunction.{TimerFunction}
use Rattle.nr_rev.specs.declared.sides.Sides.{Sides}

-- the value for a side
abbrev pub of_side : {A : Type 0} → Side → Sides A → A
of_side Read both = both.read
of_side Write both = both.write

-- the pair with a new value for one side
abbrev pub with_side : {A : Type 0} → Side → A → Sides A → Sides A
with_side Read new both = record both { read = new }
with_side Write new both = record both { write = new }

-- a pair of the same value for both sides
abbrev pub twice : {A : Type 0} → A → Sides A
twice a = record { read = a; write = a }

-- true if the side is the read side
abbrev pub is_read : Side → Bool
is_read Read = true
is_read Write = false

-- true if two sides are the same
abbrev pub same_side : Side → Side → Bool
same_side Read Read = true
same_side Write Write = true
same_side _ _ = false

-- true if a mode includes a side
abbrev pub names_side : Mode → Side → Bool
names_side Mode.Read Read = true
names_side Mode.Write Write = true
names_side Mode.Both side = true
names_side _ _ = false

-- true if a timer's function covers a side
abbrev pub covers_side : TimerFunction → Side → Bool
covers_side TimerFunction.Read Read = true
covers_side TimerFunction.Write Write = true
covers_side TimerFunction.Both side = true
covers_side _ _ = false

-- the side whose sequence and running flag a timer function uses: the read side if the function
-- covers it, or else the write side
abbrev pub side_of_function : TimerFunction → Side
side_of_function TimerFunction.Write = Write
side_of_function _ = Read
