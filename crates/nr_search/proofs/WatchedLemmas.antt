-- Comparing the watched values of marks, one mark after the other.
use Rattle.std.proofs.Common.{◌≡◌, ◌≢◌, ℕ, ◌+◌, ◌-◌, ◌<◌, ◌≤◌, Bool, true, false, cond, List, [], ◌∷◌, ◌++◌, length, map, filter, take, get_or, slice_get, Option, refl, sym, ap, ◌∙◌, subst, arith}
use Rattle.std.proofs.lemmas.List.{append-nil, length_push}
use Rattle.std.proofs.lemmas.List.Elements.{filter_more}
use Rattle.nr_rev.specs.Run.{Recording, world_at}
use Rattle.nr_rev.specs.World.{World}
use Rattle.nr_marks.specs.Hit.{hits_at, hits_between, numbered}
use Rattle.nr_marks.specs.Marks.{NumberedMark}
use Rattle.nr_marks.specs.declared.mark.NextStep.{NextStep}

-- the numbers of the items of a list, after one more item may have been added
numbers-more : {X : Type 0} (number : X → ℕ) (ys : List X) (here : Bool) (x : X) → map number (ys ++ cond here (x ∷ []) []) ≡ map number ys ++ cond here (number x ∷ []) []
numbers-more number [] true x = refl
numbers-more number [] false x = refl
numbers-more number (y ∷ ys) here x = ap (λ ns. number y ∷ ns) (numbers-more number ys here x)

-- the next mark
pub numbers-next : {X : Type 0} (number : X → ℕ) (p : X → Bool) (xs : List X) (i : ℕ) (x : X) (so_far : List ℕ) (here : Bool) → i < length xs → x ≡ get_or xs i x
    → so_far ≡ map number (filter p (take i xs)) → p x ≡ here → so_far ++ cond here (number x ∷ []) [] ≡ map number (filter p (take (i + 1) xs))
numbers-next number p xs i x so_far here within read before now =
    ap (λ ns. ns ++ cond here (number x ∷ []) []) before
    ∙ ap (λ b. map number (filter p (take i xs)) ++ cond b (number x ∷ []) []) (sym now)
    ∙ sym (numbers-more number (filter p (take i xs)) (p x) x)
    ∙ ap (λ y. map number (filter p (take i xs) ++ cond (p y) (y ∷ []) [])) read
    ∙ ap (map number) (sym (filter_more p xs i x within))

-- the list of reported numbers after one more mark was checked, whether it hits or not
pub reported-hit : (ns' ns : List ℕ) (n : ℕ) (here : Bool) → here ≡ true → ns' ≡ ns ++ n ∷ [] → ns' ≡ ns ++ cond here (n ∷ []) []
reported-hit ns' ns n here is reported = reported ∙ ap (λ b. ns ++ cond b (n ∷ []) []) (sym is)

pub reported-miss : (ns' ns : List ℕ) (n : ℕ) (here : Bool) → here ≡ false → ns' ≡ ns → ns' ≡ ns ++ cond here (n ∷ []) []
reported-miss ns' ns n here is reported = reported ∙ sym (append-nil ns) ∙ ap (λ b. ns ++ cond b (n ∷ []) []) (sym is)

pub few-more : (ns : List ℕ) (n i : ℕ) (here : Bool) → length ns ≤ i → length (ns ++ cond here (n ∷ []) []) ≤ i + 1
few-more ns n i true few = omega (arith, length_push ns n, few)
few-more ns n i false few = subst (λ ms. length ms ≤ i + 1) (sym (append-nil ns)) (omega (arith, few))

-- the worlds at positions n and n + 1 determine the numbers of the marks that hit at position n + 1
pub hits_at-next : (r : Recording) (marks : List NumberedMark) (n : ℕ) (before after : World) (next : Option NextStep) → before ≡ world_at r n → after ≡ world_at r (n + 1)
    → next ≡ numbered (n + 1) (slice_get r.steps (n + 1)) → hits_between before after next marks ≡ hits_at r marks (n + 1)
hits_at-next r marks n before after next b a s =
    let place : n ≡ n + 1 - 1 = omega arith in
    ap (λ w. hits_between w after next marks) (b ∙ ap (world_at r) place)
    ∙ ap (λ w. hits_between (world_at r (n + 1 - 1)) w next marks) a
    ∙ ap (λ x. hits_between (world_at r (n + 1 - 1)) (world_at r (n + 1)) x marks) s

-- a number below i + 1 that isn't i is below i
pub below-more : (k i : ℕ) → k < i + 1 → k ≢ i → k < i
below-more k i less other = grind arith
