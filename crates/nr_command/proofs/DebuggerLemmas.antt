-- The hits that a debugger finds are in its recording.
use Rattle.std.proofs.Common.{◌≡◌, ℕ, ◌+◌, ◌≤◌, List, length, sym, subst, arith}
use Rattle.nr_rev.specs.Run.{Recording}
use Rattle.nr_marks.specs.Hit.{hits_at}
use Rattle.nr_marks.specs.Marks.{NumberedMark}
use Rattle.nr_search.specs.Nearest.{nearest_hit}
use Rattle.nr_search.specs.Auxiliary.Nearest.{IsFound}
use Rattle.nr_search.specs.declared.direction.Direction.{Direction}
use Rattle.nr_search.specs.declared.direction.Direction.TheVariants.{Forward, Backward}
use Rattle.nr_search.specs.declared.found.Found.{Found}
use Rattle.nr_search.specs.declared.found.Found.TheVariants.{Hit, Nothing}
use Rattle.nr_search.proofs.FinderLemmas.{backward-is, forward-is}

-- true if the search found no hit, or a hit at a position that isn't after the last
abbrev pub LiesWithin : ℕ → Found → Type 0
LiesWithin last (Hit h) = h.position ≤ last
LiesWithin last Nothing = Unit {0}

is-within : (way : Direction) (hits : ℕ → List ℕ) (low high last : ℕ) (found : Found) → high ≤ last + 1 → IsFound way hits low high found → LiesWithin last found
is-within way hits low high last (Hit h) bound is = omega (arith, is.below, bound)
is-within way hits low high last Nothing bound is = tt

pub found_within : (way : Direction) (r : Recording) (marks : List NumberedMark) (n : ℕ) (found : Found) → n ≤ length r.steps → found ≡ nearest_hit way r marks n → LiesWithin (length r.steps) found
found_within Forward r marks n found within e =
    subst (LiesWithin (length r.steps)) (sym e)
    (is-within Forward (hits_at r marks) (n + 1) (length r.steps + 1) (length r.steps) (nearest_hit Forward r marks n) (omega arith) (forward-is r marks n within))
found_within Backward r marks n found within e =
    subst (LiesWithin (length r.steps)) (sym e)
    (is-within Backward (hits_at r marks) 0 n (length r.steps) (nearest_hit Backward r marks n) (omega arith) (backward-is r marks n))
