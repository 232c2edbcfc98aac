-- Paths to the root: their order, their lengths, and which places are on them.
use Rattle.std.proofs.Common.{◌≡◌, ◌⊎◌, inl, inr, ⊎_elim, ℕ, zero, suc, ◌<◌, ◌≤◌, refl, sym, ap, subst, arith}
use Rattle.std.proofs.lemmas.Bool.{cases_eq, cases_lt}
use Rattle.nr_timers.specs.PathToRoot.{parent, Leads, OnPath}

-- the places on a path have decreasing numbers
pub Leads-le : (n p q : ℕ) → Leads n p q → q ≤ p
Leads-le zero p q h = omega arith
Leads-le (suc n) p q h = let below = Leads-le n (parent p) q h.1 in omega arith

pub Leads-lt : (n p q : ℕ) → Leads (suc n) p q → q < p
Leads-lt n p q h = let below = Leads-le n (parent p) q h.1 in omega arith

pub OnPath-le : (p k : ℕ) → OnPath p k → k ≤ p
OnPath-le p k h = Leads-le h.0 p k h.1

-- the two ends of a path determine the number of its steps
pub Leads-unique : (n m p q : ℕ) → Leads n p q → Leads m p q → n ≡ m
Leads-unique zero zero p q a b = refl
Leads-unique zero (suc m) p q a b = let below = Leads-lt m p q b in absurd (omega arith)
Leads-unique (suc n) zero p q a b = let below = Leads-lt n p q a in absurd (omega arith)
Leads-unique (suc n) (suc m) p q a b = ap suc (Leads-unique n m (parent p) q a.1 b.1)

-- a path with one more step at its end
pub Leads-more : (n p q : ℕ) → Leads n p q → 0 < q → Leads (suc n) p (parent q)
Leads-more zero p q h above = (subst (λ x. 0 < x) h above, ap parent h)
Leads-more (suc n) p q h above = (h.0, Leads-more n (parent p) q h.1 above)

-- a path without its last step
pub Leads-last : (n p q : ℕ) → Leads (suc n) p q → (r : ℕ) × Leads n p r × (0 < r) × (parent r ≡ q)
Leads-last zero p q h = (p, refl, h.0, sym h.1)
Leads-last (suc n) p q h =
    let rest = Leads-last n (parent p) q h.1 in (rest.0, (h.0, rest.1), rest.2, rest.3)

-- a place on the path from p to the root is p itself, or is on the path from p's parent
pub OnPath-cases : (p k : ℕ) → OnPath p k → (k ≡ p) ⊎ ((0 < p) × OnPath (parent p) k)
OnPath-cases p k (zero, h) = inl h
OnPath-cases p k (suc n, h) = inr (h.0, (n, h.1))

pub OnPath-more : (p k : ℕ) → 0 < p → OnPath (parent p) k → OnPath p k
OnPath-more p k above h = (suc h.0, (above, h.1))

-- a place on the path from p to the root is p itself, or is the parent of another place on this
-- path
pub OnPath-ends : (p k : ℕ) → OnPath p k
    → (k ≡ p) ⊎ ((r : ℕ) × OnPath p r × (0 < r) × (parent r ≡ k))
OnPath-ends p k (zero, h) = inl h
OnPath-ends p k (suc n, h) =
    let last = Leads-last n p k h in inr (last.0, (n, last.1), last.2, last.3)

-- each place is on a path or isn't on it
pub on_path_or_not : (n p k : ℕ) → p ≤ n → OnPath p k ⊎ (OnPath p k → ⊥)
on_path_or_not zero p k le =
    ⊎_elim (λ e. inl (0, e))
    (λ other. inr (λ on. let low = OnPath-le p k on in other (omega arith))) (cases_eq k p)
on_path_or_not (suc n) p k le =
    ⊎_elim (λ e. inl (0, e))
    (
    λ other. ⊎_elim
    (
    λ above. ⊎_elim (λ on. inl (OnPath-more p k above on))
    (λ off. inr (λ on. ⊎_elim (λ e. other e) (λ rest. off rest.1) (OnPath-cases p k on)))
    (on_path_or_not n (parent p) k (omega arith))
    )
    (λ none. inr (λ on. let low = OnPath-le p k on in other (omega arith)))
    (cases_lt 0 p)
    )
    (cases_eq k p)
