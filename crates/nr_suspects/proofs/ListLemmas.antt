-- A view of the elements of a list after a push.
use Rattle.std.proofs.Common.{◌≡◌, ℕ, zero, suc, Bool, true, false, length, List, [], ◌∷◌, ◌++◌, Some, refl, ap, ◌∙◌}
use Rattle.std.specs.Prelude.{if◌then◌else◌, ◌==◌, option_map, slice_get}
use Rattle.std.proofs.lemmas.Bool.{eqb-false, eqb-true}

last_here : {X : Type 0} (xs : List X) (x : X) → slice_get (xs ++ x ∷ []) (length xs) ≡ Some x
last_here [] x = refl
last_here (y ∷ xs) x = last_here xs x

others_stay : {X : Type 0} (xs : List X) (x : X) (i : ℕ) → (i ≡ length xs → ⊥) → slice_get (xs ++ x ∷ []) i ≡ slice_get xs i
others_stay [] x zero apart = absurd (apart refl)
others_stay [] x (suc i) apart = refl
others_stay (y ∷ xs) x zero apart = refl
others_stay (y ∷ xs) x (suc i) apart = others_stay xs x i (λ e. apart (ap suc e))

-- after a push the view has the new element at its place, and all others are unchanged
pub push_seen : {X B : Type 0} (f : X → B) (xs : List X) (x : X) (i : ℕ) (b : Bool) → (i == length xs) ≡ b → option_map f (slice_get (xs ++ x ∷ []) i) ≡ (if b then Some (f x) else option_map f (slice_get xs i))
push_seen f xs x i true e = ap (λ j. option_map f (slice_get (xs ++ x ∷ []) j)) (eqb-true i (length xs) e) ∙ ap (option_map f) (last_here xs x)
push_seen f xs x i false e = ap (option_map f) (others_stay xs x i (eqb-false i (length xs) e))
