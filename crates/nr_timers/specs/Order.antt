-- The order of entries, and the entry at a place.
use Rattle.std.specs.Prelude.{◌≡◌, ℕ, ◌<◌, Bool, pos, List, length, slice_index_or}
use Rattle.nr_rev.specs.declared.sides.Side.TheVariants.{Read}
use Rattle.nr_rev.specs.declared.timer.TimerFunction.TheVariants as function
use Rattle.nr_rev.specs.declared.timer.Entry.{Entry}
use Rattle.nr_rev.specs.Timer.{is_before}

-- true if an entry goes off before another: it is due earlier, or at the same time with a lower
-- arming number
unfoldable pub is_less : Entry → Entry → Bool
is_less a b = is_before a.timer b.timer

-- the arming number
unfoldable pub number : Entry → ℕ
number e = e.timer.number

-- the value that is read at places without an entry
abbrev pub blank : Entry
blank =
    record {
      descriptor = 0;
      side = Read;
      timer = record { due = pos 0; number = 0; function = function.Read; sequence = 0 };
    }

-- the entry at a place
abbrev pub at : List Entry → ℕ → Entry
at places p = slice_index_or places p blank

-- true if this number is below the limit for each entry
abbrev pub AllBelow : (Entry → ℕ) → ℕ → List Entry → Type 0
AllBelow f limit places = (p : ℕ) → p < length places → f (at places p) < limit

-- true if this number is different for the entries at any two places
abbrev pub Apart : (Entry → ℕ) → List Entry → Type 0
Apart f places =
    (p q : ℕ) → p < length places → q < length places → f (at places p) ≡ f (at places q) → p ≡ q
