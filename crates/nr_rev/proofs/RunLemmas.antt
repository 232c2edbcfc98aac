-- Lemmas about steps that apply one after another, and about the positions after them.
use Rattle.std.proofs.Common.{◌≡◌, ℕ, zero, suc, ◌+◌, ◌<◌, ◌≤◌, List, [], ◌∷◌, length, take, Some, ◌⊎◌, inl, inr, sym, ap, ◌∙◌, subst, arith, ◌++◌, Ok, refl}
use Rattle.std.specs.List.{slice_get}
use Rattle.std.specs.Prelude.{IsOk}
use Rattle.std.proofs.lemmas.List.{take-take, take_more}
use Rattle.std.proofs.lemmas.Option.{slice_get_within, get_or_from_slice_get}
use Rattle.nr_rev.specs.Step.{outcome}
use Rattle.nr_rev.specs.Run.{Recording, world_after, world_at, IsGood, next_of}
use Rattle.nr_rev.specs.Auxiliary.Run.{AppliesAt, IsWorldAt}
use Rattle.nr_rev.specs.World.{empty_world, World}
use Rattle.nr_rev.specs.declared.step.Step.{Step}
use Rattle.nr_rev.specs.declared.answer.Answer.{Answer}

-- true if the first n steps apply
pub record IsGoodTo (r : Recording) (n : ℕ) : Type 0 where
  pub each : (k : ℕ) (step : Step) → k < n → slice_get r.steps k ≡ Some step → IsOk (outcome (world_at r k) step)

below-next : (k n : ℕ) → k < n + 1 → (k < n) ⊎ (k ≡ n)
below-next k n h = grind arith

-- an item among the first n is in the list
slice_get-take : {X : Type 0} (xs : List X) (n k : ℕ) (x : X) → slice_get (take n xs) k ≡ Some x → (k < n) × (slice_get xs k ≡ Some x)
slice_get-take [] zero k x e = cc
slice_get-take [] (suc n) k x e = cc
slice_get-take (y ∷ xs) zero k x e = cc
slice_get-take (y ∷ xs) (suc n) zero x e = (omega arith, e)
slice_get-take (y ∷ xs) (suc n) (suc k) x e =
    let rest = slice_get-take xs n k x e in
    (omega (arith, rest.0), rest.1)

-- if k equals n, and the step after position n applies, then the step after position k applies
same-place : (r : Recording) (n k : ℕ) (step : Step) → AppliesAt r n → k ≡ n → slice_get r.steps k ≡ Some step → IsOk (outcome (world_at r k) step)
same-place r n k step here same read =
    let both : Some here.step ≡ Some step = sym here.next ∙ ap (slice_get r.steps) (sym same) ∙ read in
    let steps : here.step ≡ step = cc in
    subst (λ j. IsOk (outcome (world_at r j) step)) (sym same) (subst (λ s. IsOk (outcome (world_at r n) s)) steps here.applies)

-- if the first n steps apply and the next one does, the first n + 1 steps apply
pub IsGoodTo-next : (r : Recording) (n : ℕ) → IsGoodTo r n → AppliesAt r n → IsGoodTo r (n + 1)
IsGoodTo-next r n good here =
    record {
      each = λ k step below read. elim (below-next k n below) [
        | inl less ↦ good.each k step less read
        | inr same ↦ same-place r n k step here same read
      ];
    }

-- all steps apply
pub IsGoodTo-whole : (r : Recording) (n : ℕ) → IsGoodTo r n → length r.steps ≤ n → IsGood r
IsGoodTo-whole r n good reached = λ k step read.
    let within = slice_get_within r.steps k step read in
    good.each k step (omega (arith, within)) read

-- if the first n steps apply, they make a recording whose steps all apply
pub IsGoodTo-prefix : (r : Recording) (n : ℕ) → IsGoodTo r n → IsGood (record r { steps = take n r.steps })
IsGoodTo-prefix r n good = λ k step read.
    let there = slice_get-take r.steps n k step read in
    let inside : k ≤ n = omega (arith, there.0) in
    subst (λ steps. IsOk (outcome (world_after (empty_world r.limits) steps) step)) (sym (take-take k n r.steps inside)) (good.each k step there.0 there.1)

-- the first n + 1 items are the first n items and the next one
take-next : {X : Type 0} (xs : List X) (n : ℕ) (x : X) → slice_get xs n ≡ Some x → take (n + 1) xs ≡ take n xs ++ x ∷ []
take-next xs n x read =
    take_more xs n x (slice_get_within xs n x read) ∙ ap (λ y. take n xs ++ y ∷ []) (get_or_from_slice_get xs n x x read)

-- the world after some steps and the step that follows them
world_after-push : (w : World) (steps : List Step) (step : Step) → world_after w (steps ++ step ∷ []) ≡ next_of (world_after w steps) (outcome (world_after w steps) step)
world_after-push w [] step = refl
world_after-push w (first ∷ steps) step = world_after-push (next_of w (outcome w first)) steps step

-- if the step after position n applies, it leads to the world at position n + 1
world_at-next : (r : Recording) (n : ℕ) (step : Step) (answer : Answer) (next : World) → slice_get r.steps n ≡ Some step → outcome (world_at r n) step ≡ Ok (answer, next) → world_at r (n + 1) ≡ next
world_at-next r n step answer next read applies =
    ap (world_after _) (take-next r.steps n step read) ∙ world_after-push _ (take n r.steps) step ∙ ap (next_of (world_at r n)) applies

-- if a state represents a position, the state after a step that applies represents the next one
pub IsWorldAt-next : {State : Type 0} (is_well_formed : State → Type 0) (world : State → World) (r : Recording) (n : ℕ) (step : Step) (answer : Answer) (state next : State)
    → IsWorldAt is_well_formed world r n state → slice_get r.steps n ≡ Some step → outcome (world state) step ≡ Ok (answer, world next) → is_well_formed next
    → IsWorldAt is_well_formed world r (n + 1) next
IsWorldAt-next is_well_formed world r n step answer state next is_at read applies fits =
    record {
      well_formed = fits;
      there = sym (world_at-next r n step answer (world next) read (subst (λ w. outcome w step ≡ Ok (answer, world next)) is_at.there applies));
    }
