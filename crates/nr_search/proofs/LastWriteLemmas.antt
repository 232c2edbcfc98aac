-- Searching backwards for a watch's hit finds the last write of its cell.
use Rattle.std.proofs.Common.{◌≡◌, ◌≢◌, ℕ, zero, suc, ◌+◌, ◌-◌, ◌<◌, ◌≤◌, Bool, true, false, not, cond, List, [], ◌∷◌, length, map, refl, sym, ap, ◌∙◌, subst, arith}
use Rattle.nr_rev.specs.Cell.{cell, same_value}
use Rattle.nr_rev.specs.Run.{Recording, world_at}
use Rattle.nr_rev.specs.declared.cell.Cell.{Cell}
use Rattle.nr_rev.proofs.CellValueLemmas.{same_value-equal, same_value-self}
use Rattle.nr_marks.specs.Hit.{hits_at}
use Rattle.nr_marks.specs.Marks.{NumberedMark}
use Rattle.nr_marks.specs.declared.mark.Mark.TheVariants.{Watch}
use Rattle.nr_search.specs.Auxiliary.Nearest.{IsNearest}
use Rattle.nr_search.specs.declared.direction.Direction.TheVariants.{Backward}

abbrev one : ℕ → Cell → List NumberedMark
one number c = record { number = number; item = Watch c } ∷ []

-- the hits of a watch at a position depend on whether the value differs from the one before
by_value : (r : Recording) (number q : ℕ) (c : Cell) (b : Bool)
    → same_value (cell (world_at r (q - 1)) c) (cell (world_at r q) c) ≡ b
    → hits_at r (one number c) q ≡ map (λ m. m.number) (cond (not b) (one number c) [])
by_value r number q c b is = ap (λ v. map (λ (m : NumberedMark). m.number) (cond (not v) (one number c) [])) is

-- if a watch doesn't hit at a position, the cell's value is the same as one step before
quiet : (r : Recording) (number q : ℕ) (c : Cell) → hits_at r (one number c) q ≡ []
    → cell (world_at r (q - 1)) c ≡ cell (world_at r q) c
quiet r number q c none = go (same_value (cell (world_at r (q - 1)) c) (cell (world_at r q) c)) refl
  where
    go : (b : Bool) → same_value (cell (world_at r (q - 1)) c) (cell (world_at r q) c) ≡ b
        → cell (world_at r (q - 1)) c ≡ cell (world_at r q) c
    go true is = same_value-equal (cell (world_at r (q - 1)) c) (cell (world_at r q) c) is
    go false is = absurd (let hit : [] ≡ number ∷ [] = sym none ∙ by_value r number q c false is in cc)

steady_on : (r : Recording) (number n p : ℕ) (c : Cell) (ms : List ℕ)
    → IsNearest Backward (hits_at r (one number c)) 0 n p ms
    → (k : ℕ) → p + k < n → cell (world_at r (p + k)) c ≡ cell (world_at r p) c
steady_on r number n p c ms h zero within = ap (λ i. cell (world_at r i) c) (omega arith)
steady_on r number n p c ms h (suc k) within =
    let before : p + suc k - 1 ≡ p + k = omega arith in
    let none : hits_at r (one number c) (p + suc k) ≡ [] =
    h.nearest (p + suc k) (omega arith) within (omega arith) in
    sym (quiet r number (p + suc k) c none)
    ∙ ap (λ i. cell (world_at r i) c) before
    ∙ steady_on r number n p c ms h k (omega (arith, within))

pub steady : (r : Recording) (number n p : ℕ) (c : Cell) (ms : List ℕ)
    → IsNearest Backward (hits_at r (one number c)) 0 n p ms
    → (q : ℕ) → p ≤ q → q < n → cell (world_at r q) c ≡ cell (world_at r p) c
steady r number n p c ms h q from within =
    let there : p + (q - p) ≡ q = omega (arith, from) in
    ap (λ i. cell (world_at r i) c) (sym there)
    ∙ steady_on r number n p c ms h (q - p) (omega (arith, from, within))

pub written : (r : Recording) (number n p : ℕ) (c : Cell) (ms : List ℕ)
    → IsNearest Backward (hits_at r (one number c)) 0 n p ms
    → cell (world_at r (p - 1)) c ≢ cell (world_at r p) c
written r number n p c ms h is =
    let equal : same_value (cell (world_at r (p - 1)) c) (cell (world_at r p) c) ≡ true =
    subst (λ v. same_value (cell (world_at r (p - 1)) c) v ≡ true) is (same_value-self (cell (world_at r (p - 1)) c)) in
    let none : ms ≡ [] = h.reported ∙ by_value r number p c true equal in
    let few : length ms ≡ 0 = ap length none in
    omega (arith, few, h.some)
