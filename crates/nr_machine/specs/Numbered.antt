-- Numbered lists: each item is combined with the value that belongs to its number.
use Rattle.std.specs.Prelude.{ℕ, suc, List, [], ◌∷◌}

-- each item combined with the value for its number; the first item has number k
abbrev pub numbered : {A B C : Type 0} → (A → B → C) → ℕ → List A → (ℕ → B) → List C
numbered make k [] beside = []
numbered make k (x ∷ xs) beside = make x (beside k) ∷ numbered make (suc k) xs beside
