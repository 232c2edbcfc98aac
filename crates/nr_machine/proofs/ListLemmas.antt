-- Writing to a list, and reading its items.
use Rattle.std.proofs.Common.{◌≡◌, ℕ, zero, suc, ◌-◌, ◌<◌, List, [], ◌∷◌, ◌++◌, length, set, take, Some, None, refl, sym, ap, ◌∙◌, arith}
use Rattle.std.proofs.Math.Seq.{take-append_seam}
use Rattle.std.proofs.lemmas.List.{length-append, set-get_or}
use Rattle.std.proofs.lemmas.Option.{get_or_from_slice_get}
use Rattle.std.specs.Prelude.{slice_get}

-- writing an item again at its own index
pub set_same : {A : Type 0} (xs : List A) (i : ℕ) (x : A) → slice_get xs i ≡ Some x → set xs i x ≡ xs
set_same {A} xs i x at = ap (λ (y : A). set xs i y) (sym (get_or_from_slice_get xs i x x at)) ∙ set-get_or xs i x

-- writing outside of the list changes nothing
pub set_nowhere : {A : Type 0} (xs : List A) (i : ℕ) (x : A) → slice_get xs i ≡ None → set xs i x ≡ xs
set_nowhere [] i x at = refl
set_nowhere (y ∷ xs) zero x at = cc
set_nowhere {A} (y ∷ xs) (suc i) x at = ap (λ (ys : List A). y ∷ ys) (set_nowhere xs i x at)

-- each index below the length has an item
pub get_within : {A : Type 0} (xs : List A) (i : ℕ) → i < length xs → (x : A) × (slice_get xs i ≡ Some x)
get_within [] i h = absurd (omega arith)
get_within (x ∷ xs) zero h = (x, refl)
get_within (x ∷ xs) (suc i) h = get_within xs i (omega arith)

-- a list without its last item
pub without_last : {A : Type 0} (xs : List A) (x : A) → xs ≡ take (length (xs ++ x ∷ []) - 1) (xs ++ x ∷ [])
without_last {A} xs x =
    let more = length-append xs (x ∷ []) in
    let n : length (xs ++ x ∷ []) - 1 ≡ length xs = omega (arith, more) in
    sym (ap (λ (k : ℕ). take k (xs ++ x ∷ [])) n ∙ take-append_seam xs (x ∷ []))
