-- Lemmas about heap entries: the least entry of a list is in it, and a side's entry has its timer.
use Rattle.std.proofs.Common.{◌≡◌, ℕ, Bool, true, false, Some, None, ap, refl, sym, ◌∙◌, List, [], ◌∷◌, ◌++◌, Option, ◌⊎◌, inl, inr}
use Rattle.std.proofs.lemmas.Option.{same_Some}
use Rattle.std.specs.Prelude.{if◌then◌else◌}
use Rattle.nr_rev.specs.declared.sides.Side.{Side}
use Rattle.nr_rev.specs.declared.timer.Timer.{Timer}
use Rattle.nr_rev.specs.declared.timer.Entry.{Entry}
use Rattle.nr_rev.specs.Timer.{earlier_of, entry_of, is_before, least_of}

-- true if a list contains an entry
abbrev pub In : Entry → List Entry → Type 0
In e [] = ⊥
In e (x ∷ xs) = (x ≡ e) ⊎ In e xs

pub in_append : (e : Entry) (xs ys : List Entry) → In e (xs ++ ys) → In e xs ⊎ In e ys
in_append e [] ys p = inr p
in_append e (x ∷ xs) ys (inl p) = inl (inl p)
in_append e (x ∷ xs) ys (inr p) = elim (in_append e xs ys p) [ inl q ↦ inl (inr q) | inr q ↦ inr q ]

-- the least entry of a list is in the list
pub least_in : (es : List Entry) (e : Entry) → least_of es ≡ Some e → In e es
least_in [] e is = cc
least_in (x ∷ es) e is = go (least_of es) refl (same_Some _ _ is) (λ at. least_in es e at)
  where
    go : (o : Option Entry) → least_of es ≡ o → earlier_of x o ≡ e → (least_of es ≡ Some e → In e es) → In e (x ∷ es)
    go None at p among = inl p
    go (Some other) at p among = by (is_before other.timer x.timer) p
      where
        by : (b : Bool) → (if b then other else x) ≡ e → In e (x ∷ es)
        by true p = inr (among (at ∙ ap Some p))
        by false p = inl p

-- an entry made from a side's timer has that timer
pub entry_in : (d : ℕ) (side : Side) (o : Option Timer) (e : Entry) → In e (entry_of d side o) → (o ≡ Some e.timer) × (e.descriptor ≡ d) × (e.side ≡ side)
entry_in d side None e p = absurd p
entry_in d side (Some timer) e (inl p) = (ap (λ (x : Entry). Some x.timer) p, sym (ap (λ (x : Entry). x.descriptor) p), sym (ap (λ (x : Entry). x.side) p))
entry_in d side (Some timer) e (inr p) = absurd p
