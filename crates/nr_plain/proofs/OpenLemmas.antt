-- The first free number, and the index of an appended row.
use Rattle.std.proofs.Common.{◌≡◌, ℕ, List, [], ◌∷◌, ◌++◌, length, Some, refl}
use Rattle.std.specs.Prelude.{MatchOption, slice_get}

pub pushed_here : {X : Type 0} (xs : List X) (x : X) → slice_get (xs ++ x ∷ []) (length xs) ≡ Some x
pushed_here [] x = refl
pushed_here (y ∷ xs) x = pushed_here xs x

pub front_or_none : (xs : List ℕ) → MatchOption (slice_get xs 0) (xs ≡ []) (λ d. (rest : List ℕ) × (xs ≡ d ∷ rest))
front_or_none [] = refl
front_or_none (x ∷ xs) = (xs, refl)
