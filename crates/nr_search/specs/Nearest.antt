-- The nearest hit. Forwards, it is the first position after a given one at which a mark hits.
-- Backwards, it is the last such position before the given one.
use Rattle.std.specs.Prelude.{ℕ, zero, suc, ◌+◌, ◌-◌, ◌<◌, List, [], ◌∷◌, length}
use Rattle.nr_rev.specs.Run.{Recording}
use Rattle.nr_marks.specs.Hit.{hits_at}
use Rattle.nr_marks.specs.Marks.{NumberedMark}
use Rattle.nr_search.specs.declared.direction.Direction.{Direction}
use Rattle.nr_search.specs.declared.direction.Direction.TheVariants.{Forward, Backward}
use Rattle.nr_search.specs.declared.found.Found.{Found}
use Rattle.nr_search.specs.declared.found.Found.TheVariants.{Hit, Nothing}

-- The result after checking position p, at which the marks with these numbers hit. If no mark hits
-- at p, the result so far doesn't change.
abbrev pub found_after : Found → ℕ → List ℕ → Found
found_after found p [] = found
found_after found p (m ∷ ms) = Hit (record { position = p; marks = record { items = m ∷ ms } })

-- the first hit among `count` positions from p on, given the marks that hit at each position
abbrev pub first_hit_of : (ℕ → List ℕ) → ℕ → ℕ → Found
first_hit_of hits zero p = Nothing
first_hit_of hits (suc count) p = found_after (first_hit_of hits count (p + 1)) p (hits p)

-- the last hit at a position below n
abbrev pub last_hit_below : (ℕ → List ℕ) → ℕ → Found
last_hit_below hits zero = Nothing
last_hit_below hits (suc n) = found_after (last_hit_below hits n) n (hits n)

-- The nearest hit from position n, with the numbers of the marks that hit there. Forwards, it is
-- the first hit after n, up to the end of the recording; backwards, it is the last hit before n.
abbrev pub nearest_hit : Direction → Recording → List NumberedMark → ℕ → Found
nearest_hit Forward r marks n = first_hit_of (hits_at r marks) (length r.steps - n) (n + 1)
nearest_hit Backward r marks n = last_hit_below (hits_at r marks) n

-- True if the search needs a copy of a world, because its range has a position other than 0.
abbrev pub NeedsCopy : Direction → Recording → ℕ → Type 0
NeedsCopy Forward r n = n < length r.steps
NeedsCopy Backward r n = 1 < n
