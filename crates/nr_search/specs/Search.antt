-- How a search goes from one position to the next.
use Rattle.std.specs.Prelude.{◌≡◌, ℕ, ◌+◌, ◌-◌, Bool, true, false, List, slice_get, Some}
use Rattle.nr_rev.specs.World.{World}
use Rattle.nr_rev.specs.declared.cell_value.CellValue.{CellValue}
use Rattle.nr_marks.specs.Hit.{watched}
use Rattle.nr_marks.specs.Marks.{NumberedMark}
use Rattle.nr_search.specs.declared.direction.Direction.{Direction}
use Rattle.nr_search.specs.declared.direction.Direction.TheVariants.{Forward, Backward}
use Rattle.nr_search.specs.declared.found.Found.{Found}
use Rattle.nr_search.specs.declared.found.Found.TheVariants.{Hit, Nothing}

-- true if the result is a hit
abbrev pub is_hit : Found → Bool
is_hit (Hit h) = true
is_hit Nothing = false

-- True if the result is final: the search is forward and has a hit. A backward search of a segment
-- also visits the positions forwards, and takes the last hit.
abbrev pub is_decided : Direction → Found → Bool
is_decided Forward (Hit h) = true
is_decided Forward Nothing = false
is_decided Backward found = false

-- The number at index k when the numbers from `first` to `first + count - 1` are listed in this
-- direction.
abbrev pub nth_on_way : Direction → ℕ → ℕ → ℕ → ℕ
nth_on_way Forward first count k = first + k
nth_on_way Backward first count k = first + (count - 1 - k)

-- True if the values are those that the marks watch in the world, in the order of the marks.
pub record Remembers (w : World) (marks : List NumberedMark) (values : List CellValue) : Type 0
  where
    pub each : (i : ℕ) (m : NumberedMark) → slice_get marks i ≡ Some m
        → slice_get values i ≡ Some (watched w m.item)
