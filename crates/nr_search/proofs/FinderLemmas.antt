-- A search finds the nearest hit.
use Rattle.std.proofs.Common.{◌≡◌, ℕ, ◌+◌, ◌-◌, ◌≤◌, List, [], ◌∷◌, length, slice_get, Result, Ok, Err, refl, sym, ap, ◌∙◌, subst, arith}
use Rattle.std.specs.Prelude.{IfOk}
use Rattle.nr_rev.specs.Run.{Recording, world_at}
use Rattle.nr_marks.specs.Hit.{hits_at, mark_hits, numbered}
use Rattle.nr_marks.specs.Marks.{NumberedMark}
use Rattle.nr_marks.specs.Auxiliary.Numbered.{RisesWithin, numbers_of}
use Rattle.nr_marks.proofs.NumberedLemmas.{RisesWithin-filter}
use Rattle.nr_search.specs.Nearest.{nearest_hit}
use Rattle.nr_search.specs.Auxiliary.Nearest.{IsFound, Rises}
use Rattle.nr_search.specs.declared.direction.Direction.{Direction}
use Rattle.nr_search.specs.declared.direction.Direction.TheVariants.{Forward, Backward}
use Rattle.nr_search.specs.declared.found.Found.{Found}
use Rattle.nr_search.specs.declared.found.Found.TheVariants.{Hit, Nothing}
use Rattle.nr_search.proofs.NearestLemmas.{first_hit_of-found, first_hit_of-is, last_hit_below-found, last_hit_below-is}

-- a range of `last - n` positions that starts at n + 1 ends before last + 1
behind : (n last : ℕ) → n ≤ last → n + 1 + (last - n) ≡ last + 1
behind n last within = omega arith

module _ (r : Recording) (marks : List NumberedMark) (n : ℕ) where
  -- the computed result is the nearest hit, forwards and backwards
  pub forward-is : n ≤ length r.steps → IsFound Forward (hits_at r marks) (n + 1) (length r.steps + 1) (nearest_hit Forward r marks n)
  forward-is within =
      subst (λ high. IsFound Forward (hits_at r marks) (n + 1) high (nearest_hit Forward r marks n)) (behind n (length r.steps) within)
      (first_hit_of-is (hits_at r marks) (length r.steps - n) (n + 1))

  pub backward-is : IsFound Backward (hits_at r marks) 0 n (nearest_hit Backward r marks n)
  backward-is = last_hit_below-is (hits_at r marks) n

  pub forward-found : n ≤ length r.steps → (found : Found) → IsFound Forward (hits_at r marks) (n + 1) (length r.steps + 1) found → found ≡ nearest_hit Forward r marks n
  forward-found within found is =
      first_hit_of-found (hits_at r marks) (length r.steps - n) (n + 1) found
      (subst (λ high. IsFound Forward (hits_at r marks) (n + 1) high found) (sym (behind n (length r.steps) within)) is)

  pub if-found-forward : {E : Type 0} (direction : Direction) (result : Result Found E) → direction ≡ Forward → n ≤ length r.steps
      → IfOk result (IsFound Forward (hits_at r marks) (n + 1) (length r.steps + 1)) → IfOk result (λ found. found ≡ nearest_hit direction r marks n)
  if-found-forward direction (Ok found) way within is = forward-found within found is ∙ ap (λ d. nearest_hit d r marks n) (sym way)
  if-found-forward direction (Err e) way within is = tt

  pub if-found-backward : {E : Type 0} (direction : Direction) (result : Result Found E) → direction ≡ Backward → IfOk result (IsFound Backward (hits_at r marks) 0 n)
      → IfOk result (λ found. found ≡ nearest_hit direction r marks n)
  if-found-backward direction (Ok found) way is = last_hit_below-found (hits_at r marks) n found is ∙ ap (λ d. nearest_hit d r marks n) (sym way)
  if-found-backward direction (Err e) way is = tt

-- without marks, no mark hits
none-hit : (r : Recording) (marks : List NumberedMark) → length marks ≡ 0 → (q : ℕ) → hits_at r marks q ≡ []
none-hit r [] none q = refl
none-hit r (m ∷ marks) none q = absurd (omega arith)

pub nothing-found : (r : Recording) (marks : List NumberedMark) (n : ℕ) (direction : Direction) → length marks ≡ 0 → n ≤ length r.steps → Nothing ≡ nearest_hit direction r marks n
nothing-found r marks n Forward none within = forward-found r marks n within Nothing (record { none = λ q a b. none-hit r marks none q })
nothing-found r marks n Backward none within = last_hit_below-found (hits_at r marks) n Nothing (record { none = λ q a b. none-hit r marks none q })

-- if the numbers of all marks are ascending, so are the numbers of the marks that hit at a position
hits-rise : (r : Recording) (marks : List NumberedMark) (made p : ℕ) → RisesWithin 0 (numbers_of marks) made → RisesWithin 0 (hits_at r marks p) made
hits-rise r marks made p rising =
    RisesWithin-filter (λ m. mark_hits (world_at r (p - 1)) (world_at r p) (numbered p (slice_get r.steps p)) m.item) 0 marks made rising

found-rises : (direction : Direction) (r : Recording) (marks : List NumberedMark) (made low high : ℕ) (found : Found) → RisesWithin 0 (numbers_of marks) made
    → IsFound direction (hits_at r marks) low high found → Rises made found
found-rises direction r marks made low high (Hit h) rising is = subst (λ ns. RisesWithin 0 ns made) (sym is.reported) (hits-rise r marks made h.position rising)
found-rises direction r marks made low high Nothing rising is = tt

pub nearest-rises : (direction : Direction) (r : Recording) (marks : List NumberedMark) (made n : ℕ) → n ≤ length r.steps → RisesWithin 0 (numbers_of marks) made
    → Rises made (nearest_hit direction r marks n)
nearest-rises Forward r marks made n within rising = found-rises Forward r marks made (n + 1) (length r.steps + 1) (nearest_hit Forward r marks n) rising (forward-is r marks n within)
nearest-rises Backward r marks made n within rising = found-rises Backward r marks made 0 n (nearest_hit Backward r marks n) rising (backward-is r marks n)

pub if-rises : {E : Type 0} (direction : Direction) (r : Recording) (marks : List NumberedMark) (made n : ℕ) (result : Result Found E) → n ≤ length r.steps → RisesWithin 0 (numbers_of marks) made
    → IfOk result (λ found. found ≡ nearest_hit direction r marks n) → IfOk result (Rises made)
if-rises direction r marks made n (Ok found) within rising is = subst (Rises made) (sym is) (nearest-rises direction r marks made n within rising)
if-rises direction r marks made n (Err e) within rising is = tt
