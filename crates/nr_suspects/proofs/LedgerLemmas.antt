-- A step changes the ledger at one place of one row.
use Rattle.std.proofs.Common.{◌≡◌, ◌≢◌, ◌⊎◌, inl, inr, ℕ, ◌≤◌, List, length, Option, None, Some, set, refl, ap, sym, ◌∙◌, arith}
use Rattle.std.specs.Prelude.{map, option_and_then, option_map, slice_get}
use Rattle.std.proofs.lemmas.List.{length-map}
use Rattle.std.proofs.lemmas.Option.{slice_get-map, slice_get_within}
use Rattle.nr_rev.proofs.ListUpdateLemmas.{slice_get-set_cases, slice_get-set_here}
use Rattle.nr_suspects.specs.declared.holding.Holding.{Holding}
use Rattle.nr_suspects.specs.declared.notice.Notice.{Notice}
use Rattle.nr_suspects.specs.Holdings.{CanCount, IsHeldAt, IsRowHeldAt, RowCanCount, holding_after, place}

module _ {X : Type 0} (items : X → List Holding) (rows : List X) (s : ℕ) where
  -- the row of socket t
  row_is : (t : ℕ) (row : X) → slice_get rows t ≡ Some row → slice_get (map items rows) t ≡ Some (items row)
  row_is t row at = slice_get-map items rows t ∙ ap (option_map items) at

  place_is : (t g : ℕ) (row : X) → slice_get rows t ≡ Some row → place (map items rows) t g ≡ slice_get (items row) g
  place_is t g row at = ap (option_and_then (λ (r : List Holding). slice_get r g)) (row_is t row at)

  -- if the counts of a ledger can grow, the counts of each of its rows can grow
  pub row_has_room : (row : X) → slice_get rows s ≡ Some row → CanCount (map items rows) → RowCanCount (items row)
  row_has_room row at room g h is = room s g h (place_is s g row at ∙ is)

-- the ledger after one row was updated with a step
pub row_noted : {X : Type 0} (items : X → List Holding) (rows : List X) (n g s : ℕ) (notice : Notice) (old new : X) → slice_get rows s ≡ Some old → IsRowHeldAt n g s notice (items old) (items new)
    → IsHeldAt n g s notice (map items rows) (map items (set rows s new))
row_noted items rows n g s notice old new at noted =
    record {
      here =
          place_is items (set rows s new) s s g new (slice_get-set_here rows s old new at)
          ∙ noted.here
          ∙ ap (option_map (holding_after n g s notice)) (sym (place_is items rows s s g old at));
      elsewhere = λ t k apart.
          elim (slice_get-set_cases rows s old new t at) [
            | inl same ↦ within t k apart same.0 same.1
            | inr other ↦
                ap (option_and_then (λ (r : List Holding). slice_get r k))
                (slice_get-map items (set rows s new) t ∙ ap (option_map items) other.1 ∙ sym (slice_get-map items rows t))
          ];
    }
  where
    within : (t k : ℕ) → (t ≢ s) ⊎ (k ≢ g) → t ≡ s → slice_get (set rows s new) t ≡ Some new → place (map items (set rows s new)) t k ≡ place (map items rows) t k
    within t k (inl apart) same is = absurd (apart same)
    within t k (inr apart) same is =
        place_is items (set rows s new) s t k new is ∙ noted.elsewhere k apart ∙ sym (place_is items rows s t k old (ap (slice_get rows) same ∙ at))

-- a ledger has no places beyond its rows
no_place : (rows : List (List Holding)) (s g : ℕ) → length rows ≤ s → place rows s g ≡ None
no_place rows s g past = go (slice_get rows s) refl
  where
    go : (o : Option (List Holding)) → slice_get rows s ≡ o → place rows s g ≡ None
    go None at = ap (option_and_then (λ (r : List Holding). slice_get r g)) at
    go (Some row) at = let within = slice_get_within rows s row at in absurd (omega (arith, within, past))

-- if a socket has no row, nothing is updated
pub no_row : {X : Type 0} (items : X → List Holding) (rows : List X) (n g s : ℕ) (notice : Notice) → length rows ≤ s → IsHeldAt n g s notice (map items rows) (map items rows)
no_row items rows n g s notice past =
    let none : place (map items rows) s g ≡ None = no_place (map items rows) s g (let same = length-map rows items in omega (arith, past, same)) in
    record { here = none ∙ ap (option_map (holding_after n g s notice)) (sym none); elsewhere = λ t k apart. refl }
