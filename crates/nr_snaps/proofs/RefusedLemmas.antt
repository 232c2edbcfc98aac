-- A recording has a fault at no more than one step.
use Rattle.std.proofs.Common.{◌≡◌, ℕ, zero, suc, ◌-◌, ◌<◌, ◌⊎◌, inl, inr, List, [], ◌∷◌, arith, take, false, true, Some, Err, refl, sym, ap, subst, ◌∙◌, slice_get}
use Rattle.std.specs.Prelude.{IsOk}
use Rattle.nr_recording.specs.Recording.{Recorded, run_of}
use Rattle.nr_rev.specs.Run.{IsGood, IsRefusedAt, Recording, world_after, world_at}
use Rattle.nr_rev.specs.Step.{outcome}
use Rattle.nr_rev.specs.World.{empty_world}
use Rattle.nr_rev.specs.declared.answer.Answer.{Answer}
use Rattle.nr_rev.specs.declared.refusal.Refusal.{Refusal}
use Rattle.nr_rev.specs.declared.step.Step.{Step}
use Rattle.nr_snaps.specs.Answers.{answer_of, answer_at, AnswersAgree, AnswersAgreeTo, AnswersOtherwiseAt}
use Rattle.nr_snaps.specs.Fault.{IsStepFault}
use Rattle.nr_snaps.specs.declared.fault.LoadFault.{LoadFault}
use Rattle.nr_snaps.specs.declared.fault.LoadFault.TheVariants as fault

-- if n < m, the first n of the first m items of a list are the first n items of the list
take_of_take : {X : Type 0} (xs : List X) (n m : ℕ) → n < m → take n (take m xs) ≡ take n xs
take_of_take xs zero (suc m) less = refl
take_of_take [] (suc n) (suc m) less = refl
take_of_take (x ∷ xs) (suc n) (suc m) less = ap (λ ys. x ∷ ys) (take_of_take xs n m (omega (arith, less)))
take_of_take xs n zero less = absurd (omega (arith, less))

get_of_take : {X : Type 0} (xs : List X) (n m : ℕ) → n < m → slice_get (take m xs) n ≡ slice_get xs n
get_of_take [] n (suc m) less = refl
get_of_take (x ∷ xs) zero (suc m) less = refl
get_of_take (x ∷ xs) (suc n) (suc m) less = get_of_take xs n m (omega (arith, less))
get_of_take xs n zero less = absurd (omega (arith, less))

abbrev first : ℕ → Recording → Recording
first n r = record r { steps = take n r.steps }

-- a refused step doesn't apply
refused_is_not_ok : (r : Recording) (n : ℕ) (step : Step) (reason : Refusal) → outcome (world_at r n) step ≡ Err reason → ¬ IsOk (outcome (world_at r n) step)
refused_is_not_ok r n step reason refused ok = let no : false ≡ true = subst IsOk refused ok in absurd (grind (arith, no))

refused_gives_none : (r : Recording) (n : ℕ) (given : Answer) (reason : Refusal) → IsRefusedAt r n reason → ¬ (answer_at r n ≡ Some given)
refused_gives_none r n given reason refused gives =
    let none : answer_at r n ≡ answer_of (Err reason) = rw (refused.next, refused.refused) refl in
    let both = sym none ∙ gives in
    absurd cc

-- if all steps apply, none is refused
pub good_is_not_refused : (r : Recording) (n : ℕ) (reason : Refusal) → IsRefusedAt r n reason → ¬ IsGood r
good_is_not_refused r n reason refused good = refused_is_not_ok r n refused.step reason refused.refused (good n refused.step refused.next)

-- if the first m steps apply, a refused step isn't among them
not_before : (r : Recording) (n m : ℕ) (reason : Refusal) → IsRefusedAt r n reason → IsGood (first m r) → ¬ (n < m)
not_before r n m reason refused good less =
    let next = get_of_take r.steps n m less ∙ refused.next in
    let there : world_at (first m r) n ≡ world_at r n = ap (λ steps. world_after (empty_world r.limits) steps) (take_of_take r.steps n m less) in
    let applies = subst (λ w. IsOk (outcome w refused.step)) there (good n refused.step next) in
    refused_is_not_ok r n refused.step reason refused.refused applies

-- if the first m steps give their recorded answers, a step that gives another answer isn't among
-- them
not_agreed : (r : Recorded) (n m : ℕ) → AnswersOtherwiseAt r n → AnswersAgreeTo r m → ¬ (n < m)
not_agreed r n m other agree less =
    other.differs.2 (agree n other.given less other.gives other.differs.0 other.differs.1)

-- ---- one fault

-- the number of the faulty step, counted from 0
abbrev place : LoadFault → ℕ
place (fault.Memory refused) = 0
place (fault.Refused step reason) = step - 1
place (fault.OtherAnswer step) = step - 1

-- true if n is the greatest number for which the first n steps apply and answer as recorded
record StopsAt (r : Recorded) (n : ℕ) : Type 0 where
  before : IsGood (first n (run_of r))
  agree : AnswersAgreeTo r n
  stops : (m : ℕ) → IsGood (first m (run_of r)) → AnswersAgreeTo r m → ¬ (n < m)

stops_at : (r : Recorded) (f : LoadFault) → IsStepFault r f → StopsAt r (place f)
stops_at r (fault.Memory refused) is = absurd is
stops_at r (fault.Refused step reason) is = record {
  before = is.2.before;
  agree = is.3;
  stops = λ m good agree. not_before (run_of r) (step - 1) m reason is.2 good;
}
stops_at r (fault.OtherAnswer step) is = record {
  before = is.1.before;
  agree = is.1.agree;
  stops = λ m good agree. not_agreed r (step - 1) m is.1 agree;
}

apart : (n m : ℕ) → (n ≡ m) ⊎ ((n < m) ⊎ (m < n))
apart n m = grind arith

one_place : (r : Recorded) (n m : ℕ) → StopsAt r n → StopsAt r m → n ≡ m
one_place r n m here there =
    elim (apart n m) [
      | inl same ↦ same
      | inr other ↦ elim other [
        | inl less ↦ absurd (here.stops m there.before there.agree less)
        | inr more ↦ absurd (there.stops n here.before here.agree more)
      ]
    ]

one_reason : (r : Recording) (n m : ℕ) (reason why : Refusal) → n ≡ m → IsRefusedAt r n reason → IsRefusedAt r m why → reason ≡ why
one_reason r n m reason why same here there =
    let there' = subst (λ k. IsRefusedAt r k why) (sym same) there in
    let one = here.refused in
    let other = there'.refused in
    let steps = sym here.next ∙ there'.next in
    cc

-- a step can't be refused and give an answer
not_both : (r : Recorded) (n m : ℕ) (reason : Refusal) → n ≡ m → IsRefusedAt (run_of r) n reason → ¬ AnswersOtherwiseAt r m
not_both r n m reason same refused other =
    refused_gives_none (run_of r) n other.given reason refused (subst (λ k. answer_at (run_of r) k ≡ Some other.given) (sym same) other.gives)

pub one_fault : (r : Recorded) (f g : LoadFault) → IsStepFault r f → IsStepFault r g → f ≡ g
one_fault r (fault.Memory refused) g is also = absurd is
one_fault r f (fault.Memory refused) is also = absurd also
one_fault r (fault.Refused step reason) (fault.Refused other why) is also =
    let same = one_place r (step - 1) (other - 1) (stops_at r (fault.Refused step reason) is) (stops_at r (fault.Refused other why) also) in
    let steps : step ≡ other = omega (arith, same, is.0, also.0) in
    let reasons = one_reason (run_of r) (step - 1) (other - 1) reason why same is.2 also.2 in
    rw (steps, reasons) refl
one_fault r (fault.Refused step reason) (fault.OtherAnswer other) is also =
    let same = one_place r (step - 1) (other - 1) (stops_at r (fault.Refused step reason) is) (stops_at r (fault.OtherAnswer other) also) in
    absurd (not_both r (step - 1) (other - 1) reason same is.2 also.1)
one_fault r (fault.OtherAnswer step) (fault.Refused other why) is also =
    let same = one_place r (other - 1) (step - 1) (stops_at r (fault.Refused other why) also) (stops_at r (fault.OtherAnswer step) is) in
    absurd (not_both r (other - 1) (step - 1) why same also.2 is.1)
one_fault r (fault.OtherAnswer step) (fault.OtherAnswer other) is also =
    let same = one_place r (step - 1) (other - 1) (stops_at r (fault.OtherAnswer step) is) (stops_at r (fault.OtherAnswer other) also) in
    let steps : step ≡ other = omega (arith, same, is.0, also.0) in
    ap (λ n. fault.OtherAnswer n) steps

-- if all steps apply and answer as recorded, there is no fault
pub fault_is_bad : (r : Recorded) (f : LoadFault) → IsStepFault r f → ¬ (IsGood (run_of r) × AnswersAgree r)
fault_is_bad r (fault.Memory refused) is right = absurd is
fault_is_bad r (fault.Refused step reason) is right = good_is_not_refused (run_of r) (step - 1) reason is.2 right.0
fault_is_bad r (fault.OtherAnswer step) is right =
    let other = is.1 in
    other.differs.2 (right.1 (step - 1) other.given other.gives other.differs.0 other.differs.1)
