-- The model of a descriptor's change.
use Rattle.std.specs.Prelude.{List, ◌++◌, Option, option_to_list}
use Rattle.nr_rev.specs.declared.sides.Sides.{Sides}

-- the items of both sides, the read side's first
abbrev pub listed : {A : Type 0} → Sides (Option A) → List A
listed both = option_to_list both.read ++ option_to_list both.write
