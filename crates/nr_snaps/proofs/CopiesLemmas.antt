-- Copies are appended one by one, and read by their position.
use Rattle.std.proofs.Common.{◌≡◌, ℕ, ◌/◌, ◌<◌, ◌≤◌, List, [], ◌∷◌, ◌++◌, length, Some, inl, inr, sym, subst, arith}
use Rattle.std.proofs.Math.Nat.{div-mul-le_self}
use Rattle.std.proofs.lemmas.Nat.{le-div}
use Rattle.std.specs.List.{slice_get}
use Rattle.nr_rev.proofs.ListUpdateLemmas.{slice_get-push_cases}

-- if all items of a list and an appended item have a property, so do all items of the longer list
pub each-push : {X : Type 0} (P : ℕ → X → Type 0) (xs : List X) (x : X) → ((i : ℕ) (item : X) → slice_get xs i ≡ Some item → P i item) → P (length xs) x → (i : ℕ) (item : X)
    → slice_get (xs ++ x ∷ []) i ≡ Some item → P i item
each-push P xs x each last i item read =
    elim (slice_get-push_cases xs x item i read) [
      | inl old ↦ each i item old
      | inr pushed ↦ subst (λ j. P j item) (sym pushed.0) (subst (λ y. P (length xs) y) pushed.1 last)
    ]

-- dividing by k preserves order
pub div-mono : (m n k : ℕ) → 0 < k → m ≤ n → m / k ≤ n / k
div-mono m n k some below =
    let whole = div-mul-le_self m k in
    le-div (m / k) n k some (omega (arith, whole))
