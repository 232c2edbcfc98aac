-- If all marks are breaks, a search finds the nearest hit from the recorded steps alone.
use Rattle.std.proofs.Common.{◌≡◌, ◌⊎◌, inl, inr, ℕ, ◌+◌, ◌-◌, ◌<◌, ◌≤◌, Bool, true, false, ◌||◌, cond, List, [], ◌∷◌, length, map, filter, Option, refl, sym, ap, ◌∙◌, subst, arith}
use Rattle.nr_rev.specs.World.{World}
use Rattle.nr_rev.specs.declared.cell_value.CellValue.TheVariants.{Absent}
use Rattle.nr_marks.specs.Hit.{hits_between, hits_by, mark_hits}
use Rattle.nr_marks.specs.Marks.{NumberedMark, any_watch, is_watch}
use Rattle.nr_marks.specs.declared.mark.Mark.{Mark}
use Rattle.nr_marks.specs.declared.mark.Mark.TheVariants as mark
use Rattle.nr_marks.specs.declared.mark.NextStep.{NextStep}
use Rattle.nr_search.specs.Auxiliary.Nearest.{IsNearest, Nearer, NoneHits}
use Rattle.nr_search.specs.Search.{nth_on_way}
use Rattle.nr_search.specs.declared.direction.Direction.{Direction}
use Rattle.nr_search.specs.declared.direction.Direction.TheVariants.{Forward, Backward}
use Rattle.nr_search.proofs.SegmentLemmas.{nth-within}

-- whether a break hits depends only on the next step
by-step : (before after : World) (next : Option NextStep) (m : Mark) → is_watch m ≡ false → hits_by Absent Absent next m ≡ mark_hits before after next m
by-step before after next (mark.Break wanted) lasts = refl
by-step before after next (mark.TemporaryBreak wanted) lasts = refl
by-step before after next (mark.Watch c) none = cc

neither : (a b : Bool) → (a || b) ≡ false → (a ≡ false) × (b ≡ false)
neither true b none = cc
neither false b none = (refl, none)

-- the number of the first mark, if it hits, followed by the numbers of the other marks that hit
first-number : (here here' : Bool) (m : NumberedMark) (ms ms' : List NumberedMark) → here ≡ here' → map (λ x. x.number) ms ≡ map (λ x. x.number) ms'
    → map (λ x. x.number) (cond here (m ∷ ms) ms) ≡ map (λ x. x.number) (cond here' (m ∷ ms') ms')
first-number true true m ms ms' same rest = ap (λ ns. m.number ∷ ns) rest
first-number false false m ms ms' same rest = rest
first-number true false m ms ms' same rest = cc
first-number false true m ms ms' same rest = cc

pub numbers-by-step : (before after : World) (next : Option NextStep) (marks : List NumberedMark) → any_watch marks ≡ false
    → map (λ m. m.number) (filter (λ m. hits_by Absent Absent next m.item) marks) ≡ hits_between before after next marks
numbers-by-step before after next [] breaks = refl
numbers-by-step before after next (m ∷ marks) breaks =
    let each = neither (is_watch m.item) (any_watch marks) breaks in
    first-number (hits_by Absent Absent next m.item) (mark_hits before after next m.item) m (filter (λ x. hits_by Absent Absent next x.item) marks)
    (filter (λ x. mark_hits before after next x.item) marks) (by-step before after next m.item each.0) (numbers-by-step before after next marks each.1)

split : (a b : ℕ) → (a < b) ⊎ (b ≤ a)
split a b = grind arith

none-more : (ms : List ℕ) → length ms ≡ 0 → ms ≡ []
none-more [] none = refl
none-more (m ∷ ms) none = absurd (omega arith)

-- the number of positions that come before this one in search order
abbrev pub place-of : (direction : Direction) (low high q : ℕ) → ℕ
place-of Forward low high q = q - low
place-of Backward low high q = high - 1 - q

place-is : (direction : Direction) (low high q : ℕ) → low ≤ q → q < high → (place-of direction low high q < high - low) × (nth_on_way direction low (high - low) (place-of direction low high q) ≡ q)
place-is Forward low high q a b = (omega arith, omega arith)
place-is Backward low high q a b = (omega arith, omega arith)

-- a nearer position comes earlier in search order
nearer-sooner : (direction : Direction) (low high k q : ℕ) → k < high - low → low ≤ q → q < high → Nearer direction q (nth_on_way direction low (high - low) k) → place-of direction low high q < k
nearer-sooner Forward low high k q within a b nearer = omega (arith, nearer)
nearer-sooner Backward low high k q within a b nearer = omega (arith, nearer)

module _ (hits : ℕ → List ℕ) (direction : Direction) (low high : ℕ) where
  -- true if no mark hits at the first k positions in search order
  abbrev pub AreMissed : ℕ → Type 0
  AreMissed k = (j : ℕ) → j < k → hits (nth_on_way direction low (high - low) j) ≡ []

  -- no mark hits at a position that is among the first k in search order
  missed-at : (k q : ℕ) → low ≤ q → q < high → place-of direction low high q < k → AreMissed k → hits q ≡ []
  missed-at k q a b sooner missed = ap hits (sym (place-is direction low high q a b).1) ∙ missed (place-of direction low high q) sooner

  -- no mark hits at the first k + 1 positions if none hits at the first k or at position k
  pub missed-more : (k p : ℕ) (here : List ℕ) → p ≡ nth_on_way direction low (high - low) k → here ≡ hits p → length here ≡ 0 → AreMissed k → AreMissed (k + 1)
  missed-more k p here place is none missed j below =
      elim (split j k) [
        | inl less ↦ missed j less
        | inr more ↦
            let same : j ≡ k = omega (arith, more, below) in
            ap (λ i. hits (nth_on_way direction low (high - low) i)) same ∙ ap hits (sym place) ∙ sym is ∙ none-more here none
      ]

  -- if there are at most k positions, and no mark hits at the first k, no mark hits at any of them
  pub missed-all : (k : ℕ) → high - low ≤ k → AreMissed k → NoneHits hits low high
  missed-all k all missed = record { none = λ q a b. missed-at k q a b (omega (arith, (place-is direction low high q a b).0, all)) missed }

  -- the first position in search order at which a mark hits is the nearest hit
  pub nearest-is : (k p : ℕ) (here : List ℕ) → k < high - low → p ≡ nth_on_way direction low (high - low) k → here ≡ hits p → 0 < length here → AreMissed k
      → IsNearest direction hits low high p here
  nearest-is k p here within place is some missed =
      let inside = nth-within direction low (high - low) k within in
      record {
        above = omega (arith, place, inside.0);
        below = omega (arith, place, inside.1, within);
        reported = is;
        some = some;
        nearest = λ q a b nearer. missed-at k q a b (nearer-sooner direction low high k q within a b (subst (Nearer direction q) place nearer)) missed;
      }
