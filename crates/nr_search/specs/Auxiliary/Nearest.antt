-- Helper definitions for `Nearest`. The laws in THEOREM.md don't use them.
use Rattle.std.specs.Prelude.{◌≡◌, ℕ, ◌<◌, ◌≤◌, List, [], length}
use Rattle.nr_marks.specs.Auxiliary.Numbered.{RisesWithin}
use Rattle.nr_search.specs.declared.direction.Direction.{Direction}
use Rattle.nr_search.specs.declared.direction.Direction.TheVariants.{Forward, Backward}
use Rattle.nr_search.specs.declared.found.Found.{Found}
use Rattle.nr_search.specs.declared.found.Found.TheVariants.{Hit, Nothing}

-- true if q is nearer than p
abbrev pub Nearer : Direction → ℕ → ℕ → Type 0
Nearer Forward q p = q < p
Nearer Backward q p = p < q

-- True if exactly the marks `ms` hit at p, there is at least one of them, and no mark hits at a
-- nearer position q with low ≤ q < high.
pub record IsNearest (way : Direction) (hits : ℕ → List ℕ) (low high p : ℕ) (ms : List ℕ) : Type 0
  where
    pub above : low ≤ p
    pub below : p < high
    pub reported : ms ≡ hits p
    pub some : 0 < length ms
    pub nearest : (q : ℕ) → low ≤ q → q < high → Nearer way q p → hits q ≡ []

-- true if no mark hits at a position q with low ≤ q < high
pub record NoneHits (hits : ℕ → List ℕ) (low high : ℕ) : Type 0 where
  pub none : (q : ℕ) → low ≤ q → q < high → hits q ≡ []

-- true if the result is the nearest hit at a position q with low ≤ q < high, or is `Nothing` and no
-- mark hits there
abbrev pub IsFound : Direction → (ℕ → List ℕ) → ℕ → ℕ → Found → Type 0
IsFound direction hits low high (Hit h) = IsNearest direction hits low high h.position h.marks.items
IsFound direction hits low high Nothing = NoneHits hits low high

-- True if the mark numbers in a hit are increasing and from 1 to `made`, so that there are at most
-- `made` of them.
abbrev pub Rises : ℕ → Found → Type 0
Rises made (Hit h) = RisesWithin 0 h.marks.items made
Rises made Nothing = Unit {0}
