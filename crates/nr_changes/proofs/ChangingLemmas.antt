-- Comparing the values of cells before and after a step finds what the step changed.
use Rattle.std.proofs.Common.{◌≡◌, ◌∙◌, true, false, cond, not, Bool, List, [], ◌∷◌, refl, ap, subst}
use Rattle.std.specs.List.Retain.{RetainsInTurn}
use Rattle.std.specs.Prelude.{filter, map}
use Rattle.nr_rev.specs.Cell.{cell, same_value}
use Rattle.nr_rev.specs.World.{World}
use Rattle.nr_rev.specs.declared.cell.Cell.{Cell}
use Rattle.nr_changes.specs.Changes.{with_value}
use Rattle.nr_changes.specs.declared.changing.CellWithValue.{CellWithValue}

-- the cells whose value in a world differs from the given one, with the new value
abbrev pub changes_since : World → List CellWithValue → List CellWithValue
changes_since next before =
    map (λ (old : CellWithValue). with_value next old.cell) (filter (λ (old : CellWithValue). not (same_value (cell next old.cell) old.value)) before)

-- if the given values are those of world w, the result is the cells that differ between w and next
pub changes_among : (cells : List Cell) (w next : World)
    → changes_since next (map (with_value w) cells) ≡ map (with_value next) (filter (λ c. not (same_value (cell next c) (cell w c))) cells)
changes_among [] w next = refl
changes_among (c ∷ cells) w next =
    elim (not (same_value (cell next c) (cell w c))) as (λ b.
    not (same_value (cell next c) (cell w c)) ≡ b
    → changes_since next (map (with_value w) (c ∷ cells)) ≡ map (with_value next) (filter (λ c. not (same_value (cell next c) (cell w c))) (c ∷ cells))) [
      | true ↦ λ is. rw is (ap (λ xs. with_value next c ∷ xs) (changes_among cells w next))
      | false ↦ λ is. rw is (changes_among cells w next)
    ] refl

-- how the first element of the list contributes to the result
pub since_next : (next : World) (x : CellWithValue) (xs : List CellWithValue)
    → cond (not (same_value (cell next x.cell) x.value)) (with_value next x.cell ∷ changes_since next xs) (changes_since next xs) ≡ changes_since next (x ∷ xs)
since_next next x xs =
    elim (not (same_value (cell next x.cell) x.value)) as (λ b.
    not (same_value (cell next x.cell) x.value) ≡ b
    → cond (not (same_value (cell next x.cell) x.value)) (with_value next x.cell ∷ changes_since next xs) (changes_since next xs) ≡ changes_since next (x ∷ xs)) [
      | true ↦ λ is. rw is refl
      | false ↦ λ is. rw is refl
    ] refl

-- the result of `retain` if each call stores the value in the next world and returns whether it
-- differs
pub changes_since_from_retain : {F : Type 0} (R : F → CellWithValue → Bool → F → CellWithValue → Type 0) (next : World) (f : F)
    → ((x : CellWithValue) (b : Bool) (f' : F) (y : CellWithValue) → R f x b f' y
    → (b ≡ not (same_value (cell next x.cell) x.value)) × (f' ≡ f) × (y ≡ with_value next x.cell))
    → (xs ys : List CellWithValue) → RetainsInTurn R f xs ys → ys ≡ changes_since next xs
changes_since_from_retain R next f says [] ys h = h
changes_since_from_retain R next f says (x ∷ xs) ys h =
    let said = says x h.0 h.1 h.2 h.3 in
    let later = subst (λ g. RetainsInTurn R g xs h.4) said.1 h.5 in
    let rest = changes_since_from_retain R next f says xs h.4 later in
    h.6 ∙ (λ i. cond (said.0 i) (said.2 i ∷ rest i) (rest i)) ∙ since_next next x xs
