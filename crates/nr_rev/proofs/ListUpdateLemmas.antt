-- Lemmas about the element at an index of a list after a push or a write, and about functions of
-- that element.
use Rattle.std.proofs.Common.{◌≡◌, ◌≢◌, ℕ, zero, suc, List, [], ◌∷◌, ◌++◌, length, get_or, set, ◌<◌, Option, Some, None, ◌⊎◌, inl, inr, refl, sym, ap, subst, ◌∙◌, arith}
use Rattle.std.proofs.lemmas.List.{set-set, set-get_or}
use Rattle.std.proofs.lemmas.Option.{same_Some, slice_get-get_or}
use Rattle.std.specs.Prelude.{IfSome}
use Rattle.std.specs.List.{slice_get}

-- if f has the same value for x as for a missing element, pushing x doesn't change f at any index
pub slice_get-push_unseen : {X B : Type 0} (f : Option X → B) (xs : List X) (x : X) (i : ℕ) → f None ≡ f (Some x) → f (slice_get (xs ++ x ∷ []) i) ≡ f (slice_get xs i)
slice_get-push_unseen f [] x zero e = sym e
slice_get-push_unseen f [] x (suc i) e = refl
slice_get-push_unseen f (y ∷ xs) x zero e = refl
slice_get-push_unseen f (y ∷ xs) x (suc i) e = slice_get-push_unseen f xs x i e

-- a push keeps each old element in its place
pub slice_get-push_kept : {X : Type 0} (xs : List X) (x y : X) (i : ℕ) → slice_get xs i ≡ Some y → slice_get (xs ++ x ∷ []) i ≡ Some y
slice_get-push_kept [] x y i e = cc
slice_get-push_kept (z ∷ xs) x y zero e = e
slice_get-push_kept (z ∷ xs) x y (suc i) e = slice_get-push_kept xs x y i e

-- each element of the longer list is an old element or the pushed one
pub slice_get-push_cases : {X : Type 0} (xs : List X) (x y : X) (i : ℕ) → slice_get (xs ++ x ∷ []) i ≡ Some y → (slice_get xs i ≡ Some y) ⊎ ((i ≡ length xs) × (x ≡ y))
slice_get-push_cases [] x y zero e = inr (refl, cc)
slice_get-push_cases [] x y (suc i) e = cc
slice_get-push_cases (z ∷ xs) x y zero e = inl e
slice_get-push_cases (z ∷ xs) x y (suc i) e =
    elim (slice_get-push_cases xs x y i e) [ inl old ↦ inl old | inr new ↦ inr (ap suc new.0, new.1) ]

-- the written place has the new element
pub slice_get-set_here : {X : Type 0} (xs : List X) (i : ℕ) (old new : X) → slice_get xs i ≡ Some old → slice_get (set xs i new) i ≡ Some new
slice_get-set_here [] i old new e = cc
slice_get-set_here (x ∷ xs) zero old new e = refl
slice_get-set_here (x ∷ xs) (suc i) old new e = slice_get-set_here xs i old new e

-- if f has the same value for the new element as for the old one, a write doesn't change f at any
-- index
pub slice_get-set_unseen : {X B : Type 0} (f : Option X → B) (xs : List X) (i : ℕ) (old new : X) (j : ℕ) → slice_get xs i ≡ Some old → f (Some new) ≡ f (Some old)
    → f (slice_get (set xs i new) j) ≡ f (slice_get xs j)
slice_get-set_unseen f [] i old new j at e = refl
slice_get-set_unseen f (x ∷ xs) zero old new zero at e = e ∙ sym (ap f at)
slice_get-set_unseen f (x ∷ xs) zero old new (suc j) at e = refl
slice_get-set_unseen f (x ∷ xs) (suc i) old new zero at e = refl
slice_get-set_unseen f (x ∷ xs) (suc i) old new (suc j) at e = slice_get-set_unseen f xs i old new j at e

-- the written place has the new element, and each other place keeps its element
pub slice_get-set_cases : {X : Type 0} (xs : List X) (i : ℕ) (old new : X) (j : ℕ) → slice_get xs i ≡ Some old
    → ((j ≡ i) × (slice_get (set xs i new) j ≡ Some new)) ⊎ ((j ≢ i) × (slice_get (set xs i new) j ≡ slice_get xs j))
slice_get-set_cases [] i old new j at = cc
slice_get-set_cases (x ∷ xs) zero old new zero at = inl (refl, refl)
slice_get-set_cases (x ∷ xs) zero old new (suc j) at = inr ((λ e. omega arith), refl)
slice_get-set_cases (x ∷ xs) (suc i) old new zero at = inr ((λ e. omega arith), refl)
slice_get-set_cases (x ∷ xs) (suc i) old new (suc j) at =
    elim (slice_get-set_cases xs i old new j at) [
      | inl here ↦ inl (ap suc here.0, here.1)
      | inr other ↦ inr ((λ e. other.0 (omega arith)), other.1)
    ]

-- if a property holds for the new element and all old ones, it holds for all after a write or a
-- push
pub slice_get-set_all : {X : Type 0} (P : X → Type 0) (xs : List X) (i : ℕ) (old new : X) → slice_get xs i ≡ Some old → P new → ((j : ℕ) (x : X) → slice_get xs j ≡ Some x → P x) → (j : ℕ) (x : X)
    → slice_get (set xs i new) j ≡ Some x → P x
slice_get-set_all P xs i old new at p all j x is =
    elim (slice_get-set_cases xs i old new j at) [
      | inl here ↦ subst P (same_Some _ _ (sym here.1 ∙ is)) p
      | inr other ↦ all j x (sym other.1 ∙ is)
    ]

pub slice_get-push_all : {X : Type 0} (P : X → Type 0) (xs : List X) (new : X) → P new → ((j : ℕ) (x : X) → slice_get xs j ≡ Some x → P x) → (j : ℕ) (x : X) → slice_get (xs ++ new ∷ []) j ≡ Some x
    → P x
slice_get-push_all P xs new p all j x is = elim (slice_get-push_cases xs new x j is) [ inl old ↦ all j x old | inr here ↦ subst P here.1 p ]

-- A write at i keeps a property of the element at j. If i is j and the old element has the
-- property, the new one must have it too.
pub slice_get-set_found : {X : Type 0} (P : X → Type 0) (xs : List X) (i : ℕ) (old new : X) (j : ℕ) (x : X) → slice_get xs i ≡ Some old → (j ≡ i → P old → P new) → slice_get xs j ≡ Some x → P x
    → (y : X) × (slice_get (set xs i new) j ≡ Some y) × P y
slice_get-set_found P xs i old new j x at next is p =
    elim (slice_get-set_cases xs i old new j at) [
      | inl here ↦ (new, here.1, next here.0 (subst P (same_Some _ _ (sym is ∙ ap (slice_get xs) here.0 ∙ at)) p))
      | inr other ↦ (x, other.1 ∙ is, p)
    ]

-- overwriting an element and then writing it back restores the list
pub set_read_back : {X : Type 0} (xs : List X) (i : ℕ) (x y : X) → x ≡ get_or xs i x → set (set xs i y) i x ≡ xs
set_read_back xs i x y read = set-set xs i y x ∙ ap (set xs i) read ∙ set-get_or xs i x

-- at an index within the list, `get_or` and `slice_get` return the same element
pub read_is_there : {X : Type 0} (xs : List X) (i : ℕ) (x : X) → i < length xs → x ≡ get_or xs i x → IfSome (slice_get xs i) (λ y. y ≡ x)
read_is_there xs i x within read = rw (slice_get-get_or xs i x within) (sym read)
