-- Looking up a numbered item.
use Rattle.std.proofs.Common.{◌≡◌, ℕ, zero, suc, ◌+◌, List, [], ◌∷◌, Some, ap, ◌∙◌, arith}
use Rattle.std.specs.Prelude.{slice_get}
use Rattle.nr_machine.specs.Numbered.{numbered}

module _ {A B C : Type 0} (make : A → B → C) where
  -- the combined item at index i is the original item combined with the value for its number
  pub numbered_at : (k i n : ℕ) (xs : List A) (beside : ℕ → B) (x : A) → n ≡ k + i
      → slice_get xs i ≡ Some x
      → slice_get (numbered make k xs beside) i ≡ Some (make x (beside n))
  numbered_at k i n [] beside x is at = absurd cc
  numbered_at k zero n (y ∷ xs) beside x is at =
      let here : k ≡ n = omega arith in
      let same : y ≡ x = cc in
      ap (λ (m : ℕ). Some (make y (beside m))) here ∙ ap (λ (z : A). Some (make z (beside n))) same
  numbered_at k (suc i) n (y ∷ xs) beside x is at =
      numbered_at (suc k) i n xs beside x (omega arith) at
