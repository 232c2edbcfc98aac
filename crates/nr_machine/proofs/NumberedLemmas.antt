-- Numbered items: looking up, changing and appending.
use Rattle.std.proofs.Common.{◌≡◌, ◌≢◌, ℕ, zero, suc, ◌+◌, ◌<◌, ◌≤◌, List, [], ◌∷◌, ◌++◌, length, set, None, refl, ap, ◌∙◌, arith}
use Rattle.std.specs.Prelude.{slice_get}
use Rattle.nr_machine.specs.Numbered.{numbered}

module _ {A B C : Type 0} (make : A → B → C) where
  -- an index past the end of the items is past the end of the combined list
  pub numbered_past : (k i : ℕ) (xs : List A) (beside : ℕ → B) → slice_get xs i ≡ None → slice_get (numbered make k xs beside) i ≡ None
  numbered_past k i [] beside at = refl
  numbered_past k zero (y ∷ xs) beside at = absurd cc
  numbered_past k (suc i) (y ∷ xs) beside at = numbered_past (suc k) i xs beside at

  pub length-numbered : (k : ℕ) (xs : List A) (beside : ℕ → B) → length (numbered make k xs beside) ≡ length xs
  length-numbered k [] beside = refl
  length-numbered k (x ∷ xs) beside = ap suc (length-numbered (suc k) xs beside)

  -- combined lists of the same items are equal if their second values agree
  pub numbered_same : (k : ℕ) (xs : List A) (old new : ℕ → B) → ((n : ℕ) → k ≤ n → n < k + length xs → new n ≡ old n)
      → numbered make k xs new ≡ numbered make k xs old
  numbered_same k [] old new same = refl
  numbered_same k (x ∷ xs) old new same =
      let here : new k ≡ old k = same k (omega arith) (omega arith) in
      let rest : numbered make (suc k) xs new ≡ numbered make (suc k) xs old =
      numbered_same (suc k) xs old new (λ n above below. same n (omega arith) (omega arith)) in
      ap (λ (b : B). make x b ∷ numbered make (suc k) xs new) here ∙ ap (λ (zs : List C). make x (old k) ∷ zs) rest

  -- if only one item and the second value beside it change, only that item of the combined list
  -- changes
  pub numbered_set : (k i n : ℕ) (xs : List A) (x : A) (old new : ℕ → B) → n ≡ k + i → ((m : ℕ) → m ≢ n → new m ≡ old m)
      → numbered make k (set xs i x) new ≡ set (numbered make k xs old) i (make x (new n))
  numbered_set k i n [] x old new is others = refl
  numbered_set k zero n (y ∷ xs) x old new is others =
      let here : k ≡ n = omega arith in
      let rest : numbered make (suc k) xs new ≡ numbered make (suc k) xs old =
      numbered_same (suc k) xs old new (λ m above below. others m (λ e. omega arith)) in
      ap (λ (m : ℕ). make x (new m) ∷ numbered make (suc k) xs new) here ∙ ap (λ (zs : List C). make x (new n) ∷ zs) rest
  numbered_set k (suc i) n (y ∷ xs) x old new is others =
      let here : new k ≡ old k = others k (λ e. omega arith) in
      let rest : numbered make (suc k) (set xs i x) new ≡ set (numbered make (suc k) xs old) i (make x (new n)) =
      numbered_set (suc k) i n xs x old new (omega arith) others in
      ap (λ (b : B). make y b ∷ numbered make (suc k) (set xs i x) new) here ∙ ap (λ (zs : List C). make y (old k) ∷ zs) rest

  -- one more item
  pub numbered_push : (k n : ℕ) (xs : List A) (x : A) (old new : ℕ → B) → n ≡ k + length xs → ((m : ℕ) → m ≢ n → new m ≡ old m)
      → numbered make k (xs ++ x ∷ []) new ≡ numbered make k xs old ++ make x (new n) ∷ []
  numbered_push k n [] x old new is others =
      let here : k ≡ n = omega arith in ap (λ (m : ℕ). make x (new m) ∷ []) here
  numbered_push k n (y ∷ xs) x old new is others =
      let here : new k ≡ old k = others k (λ e. omega arith) in
      let rest : numbered make (suc k) (xs ++ x ∷ []) new ≡ numbered make (suc k) xs old ++ make x (new n) ∷ [] =
      numbered_push (suc k) n xs x old new (omega arith) others in
      ap (λ (b : B). make y b ∷ numbered make (suc k) (xs ++ x ∷ []) new) here ∙ ap (λ (zs : List C). make y (old k) ∷ zs) rest
