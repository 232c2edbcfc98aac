-- The contents of a sorted list of numbers, and of a filtered list.
use Rattle.std.proofs.Common.{◌≡◌, ℕ, Bool, true, false, List, [], ◌∷◌, cond, refl, sym, subst, ◌⊎◌, inl, inr, arith}
use Rattle.std.specs.Prelude.{Contains, filter}
use Rattle.std.specs.BTreeSet.{insert_key}
use Rattle.std.specs.declared.cmp.Ordering.{Ordering}
use Rattle.std.specs.declared.cmp.Ordering.TheVariants.{Less, Equal, Greater}
use Rattle.std.specs.Ordering.{nat_cmp, match_ordering}
use Rattle.std.proofs.lemmas.List.Elements.{Contains-append_left, Contains-append_right, Contains-append_cases, Contains-push, Contains-push_cases, All-contains, All-filter, All-contains_itself, filter_passes}
use Rattle.std.proofs.lemmas.Map.Lookups.{exact_unsigned}
use Rattle.nr_changes.specs.Changed.{in_order}

pub here : {X : Type 0} (x : X) (xs : List X) → Contains (x ∷ xs) x
here x xs = Contains-append_left (x ∷ []) xs x (Contains-push [] x)

pub later : {X : Type 0} (x : X) (xs : List X) (y : X) → Contains xs y → Contains (x ∷ xs) y
later x xs y at = Contains-append_right (x ∷ []) xs y at

pub nowhere : {X : Type 0} (y : X) → Contains [] y → ⊥
nowhere y at = omega (arith, at.1)

pub here_or_later : {X : Type 0} (x : X) (xs : List X) (y : X) → Contains (x ∷ xs) y → (x ≡ y) ⊎ Contains xs y
here_or_later x xs y at =
    elim (Contains-append_cases (x ∷ []) xs y at) [
      | inl one ↦ elim (Contains-push_cases [] x y one) [ inl none ↦ absurd (nowhere y none) | inr same ↦ inl same ]
      | inr other ↦ inr other
    ]

-- ---- in order

new_placed : (k x : ℕ) (xs : List ℕ) (o : Ordering) → (o ≡ Equal → k ≡ x) → Contains (insert_key nat_cmp xs k) k → Contains (match_ordering o (k ∷ x ∷ xs) (x ∷ xs) (x ∷ insert_key nat_cmp xs k)) k
new_placed k x xs Less same rest = here k (x ∷ xs)
new_placed k x xs Equal same rest = subst (Contains (x ∷ xs)) (sym (same refl)) (here x xs)
new_placed k x xs Greater same rest = later x (insert_key nat_cmp xs k) k rest

inserted : (k : ℕ) (xs : List ℕ) → Contains (insert_key nat_cmp xs k) k
inserted k [] = here k []
inserted k (x ∷ xs) = new_placed k x xs (nat_cmp k x) (exact_unsigned k x) (inserted k xs)

old_kept : (k x : ℕ) (xs : List ℕ) (y : ℕ) (o : Ordering) → Contains (x ∷ xs) y → (Contains xs y → Contains (insert_key nat_cmp xs k) y) → Contains (match_ordering o (k ∷ x ∷ xs) (x ∷ xs) (x ∷ insert_key nat_cmp xs k)) y
old_kept k x xs y Less at rest = later k (x ∷ xs) y at
old_kept k x xs y Equal at rest = at
old_kept k x xs y Greater at rest =
    elim (here_or_later x xs y at) [
      | inl same ↦ subst (Contains (x ∷ insert_key nat_cmp xs k)) same (here x (insert_key nat_cmp xs k))
      | inr other ↦ later x (insert_key nat_cmp xs k) y (rest other)
    ]

insert_keeps : (k : ℕ) (xs : List ℕ) (y : ℕ) → Contains xs y → Contains (insert_key nat_cmp xs k) y
insert_keeps k [] y at = absurd (nowhere y at)
insert_keeps k (x ∷ xs) y at = old_kept k x xs y (nat_cmp k x) at (insert_keeps k xs y)

pub Contains-in_order : (ns : List ℕ) (n : ℕ) → Contains ns n → Contains (in_order ns) n
Contains-in_order [] n at = absurd (nowhere n at)
Contains-in_order (m ∷ ns) n at =
    elim (here_or_later m ns n at) [
      | inl same ↦ subst (Contains (insert_key nat_cmp (in_order ns) m)) same (inserted m (in_order ns))
      | inr other ↦ insert_keeps m (in_order ns) n (Contains-in_order ns n other)
    ]

-- ---- filters

kept_first : {X : Type 0} (b : Bool) (x : X) (xs : List X) → b ≡ true → Contains (cond b (x ∷ xs) xs) x
kept_first true x xs e = here x xs
kept_first false x xs e = cc

kept_later : {X : Type 0} (b : Bool) (x : X) (xs : List X) (y : X) → Contains xs y → Contains (cond b (x ∷ xs) xs) y
kept_later true x xs y at = later x xs y at
kept_later false x xs y at = at

pub Contains-filter : {X : Type 0} (p : X → Bool) (xs : List X) (y : X) → Contains xs y → p y ≡ true → Contains (filter p xs) y
Contains-filter p [] y at passes = absurd (nowhere y at)
Contains-filter p (x ∷ xs) y at passes =
    elim (here_or_later x xs y at) [
      | inl same ↦ subst (Contains (filter p (x ∷ xs))) same (kept_first (p x) x (filter p xs) (subst (λ z. p z ≡ true) (sym same) passes))
      | inr other ↦ kept_later (p x) x (filter p xs) y (Contains-filter p xs y other passes)
    ]

pub passes_filter : {X : Type 0} (p : X → Bool) (xs : List X) (y : X) → Contains (filter p xs) y → p y ≡ true
passes_filter p xs y at = All-contains (λ x. p x ≡ true) (filter p xs) y (filter_passes p xs) at

pub Contains-from_filter : {X : Type 0} (p : X → Bool) (xs : List X) (y : X) → Contains (filter p xs) y → Contains xs y
Contains-from_filter p xs y at = All-contains (Contains xs) (filter p xs) y (All-filter p (Contains xs) xs (All-contains_itself xs)) at
