-- Computing the first fault of a recording.
use Rattle.std.proofs.Common.{◌≡◌, ◌≢◌, ℕ, zero, suc, ◌+◌, ◌-◌, ◌<◌, ◌≤◌, true, false, List, [], ◌∷◌, length, take, drop, Option, Some, None, Ok, Err, refl, sym, ap, subst, ◌∙◌, arith, add-one, take-take}
use Rattle.std.specs.List.{slice_get}
use Rattle.std.specs.Prelude.{IsOk, option_and_then, option_map}
use Rattle.std.proofs.lemmas.List.{drop_more, drop_all}
use Rattle.std.proofs.lemmas.Option.{get_or_from_slice_get, slice_get-map, slice_get_within}
use Rattle.nr_recording.proofs.TextLaws.{reading_again}
use Rattle.nr_recording.specs.Recording.{Recorded, recorded_at, run_of}
use Rattle.nr_recording.specs.declared.fault.ReadFault.TheVariants as read
use Rattle.nr_recording.specs.declared.recording.RecordedStep.{RecordedStep}
use Rattle.nr_rev.specs.Run.{IsGood, IsRefusedAt, Recording, next_of, world_after, world_at}
use Rattle.nr_rev.specs.Step.{Outcome, outcome}
use Rattle.nr_rev.specs.World.{World, empty_world}
use Rattle.nr_rev.specs.declared.answer.Answer.{Answer}
use Rattle.nr_rev.specs.declared.refusal.Refusal.{Refusal}
use Rattle.nr_rev.specs.declared.step.Step.{Step}
use Rattle.nr_rev.proofs.RunLemmas.{IsWorldAt-next}
use Rattle.nr_snaps.specs.Answers.{Agrees, AnswersAgree, AnswersAgreeTo, AnswersOtherwiseAt, Differs, answer_at, answer_of}
use Rattle.nr_snaps.specs.Fault.{IsStepFault}
use Rattle.nr_snaps.specs.declared.fault.LoadFault.{LoadFault}
use Rattle.nr_snaps.specs.declared.fault.LoadFault.TheVariants as load
use Rattle.nr_snaps.proofs.AnswerLemmas.{answer_at-here, steps_of_run}
use Rattle.nr_programs.specs.Opening.{IsFirstFault, IsGoodText, first_fault, fault_or, opened, opened_as, run_or, same_answer, step_fault}
use Rattle.nr_programs.specs.declared.opening.OpenFault.{OpenFault}
use Rattle.nr_programs.specs.declared.opening.OpenFault.TheVariants.{Read, Load}

-- ---- two answers

same_as_itself : (a : Answer) → same_answer a a ≡ true
same_as_itself a = grind arith

same_are_equal : (a b : Answer) → same_answer a b ≡ true → a ≡ b
same_are_equal a b same = grind (arith, same)

others_differ : (a b : Answer) → a ≢ b → same_answer a b ≡ false
others_differ a b other =
    elim (same_answer a b) as (λ t. same_answer a b ≡ t → same_answer a b ≡ false) [
      | true ↦ λ same. absurd (other (same_are_equal a b same))
      | false ↦ λ is. is
    ] refl

-- ---- one step

-- a step that gives its recorded answer has no fault
pub no_fault : (n : ℕ) (recorded : Option Answer) (given : Answer) (next : World) → Agrees recorded given → step_fault n recorded (Ok (given, next)) ≡ None
no_fault n None given next agrees = refl
no_fault n (Some answer) given next agrees = rw (agrees answer refl, same_as_itself given) refl

-- a step that gives another answer has a fault
pub other_answer : (n : ℕ) (recorded : Option Answer) (given : Answer) (next : World) → Differs recorded given → step_fault n recorded (Ok (given, next)) ≡ Some (load.OtherAnswer n)
other_answer n recorded given next differs = rw (differs.1, others_differ differs.0 given differs.2) refl

module _ (r : Recorded) where
  -- the first fault of the steps from position n on
  abbrev pub fault_from : ℕ → Option LoadFault
  fault_from n = first_fault (n + 1) (world_at (run_of r) n) (drop n r.steps)

  -- the recorded step for a step of the run
  pub step_there : (n : ℕ) (step : Step) → slice_get (run_of r).steps n ≡ Some step → (s : RecordedStep) × (slice_get r.steps n ≡ Some s) × (s.step ≡ step) × (recorded_at r n ≡ s.answer)
  step_there n step read = there (slice_get r.steps n) refl (sym (slice_get-map (λ (s : RecordedStep). s.step) r.steps n) ∙ read)
    where
      there : (o : Option RecordedStep) → slice_get r.steps n ≡ o → option_map (λ (s : RecordedStep). s.step) o ≡ Some step → (s : RecordedStep) × (slice_get r.steps n ≡ Some s) × (s.step ≡ step) × (recorded_at r n ≡ s.answer)
      there None is e = absurd cc
      there (Some s) is e = (s, is, (let same : s.step ≡ step = cc in same), ap (option_and_then (λ (x : RecordedStep). x.answer)) is)

  -- the first fault at or after position n: the fault of the step at n, or the first later one if
  -- that step has no fault
  pub fault_at : (n : ℕ) (s : RecordedStep) → slice_get r.steps n ≡ Some s
      → fault_from n ≡ fault_or (step_fault (n + 1) s.answer (outcome (world_at (run_of r) n) s.step)) (first_fault (n + 1 + 1) (next_of (world_at (run_of r) n) (outcome (world_at (run_of r) n) s.step)) (drop (n + 1) r.steps))
  fault_at n s read =
      ap (first_fault (n + 1) (world_at (run_of r) n))
      (drop_more r.steps n s (slice_get_within r.steps n s read) ∙ ap (λ x. x ∷ drop (n + 1) r.steps) (get_or_from_slice_get r.steps n s s read))

  -- a step that applies and gives its recorded answer isn't the first fault
  pub step_on : (n : ℕ) (step : Step) (given : Answer) (next : World) → slice_get (run_of r).steps n ≡ Some step → outcome (world_at (run_of r) n) step ≡ Ok (given, next) → Agrees (recorded_at r n) given → fault_from n ≡ fault_from (n + 1)
  step_on n step given next read applies agrees =
      let s = step_there n step read in
      let applies' : outcome (world_at (run_of r) n) s.0.step ≡ Ok (given, next) = subst (λ x. outcome (world_at (run_of r) n) x ≡ Ok (given, next)) (sym s.2) applies in
      let there : world_at (run_of r) (n + 1) ≡ next =
      sym (IsWorldAt-next (λ (w : World). Unit {0}) (λ w. w) (run_of r) n step given (world_at (run_of r) n) next (record { well_formed = tt; there = refl }) read applies tt).there in
      let rest = drop (n + 1) r.steps in
      fault_at n s.0 s.1
      ∙ ap (λ (o : Outcome). fault_or (step_fault (n + 1) s.0.answer o) (first_fault (n + 1 + 1) (next_of (world_at (run_of r) n) o) rest)) applies'
      ∙ ap (λ f. fault_or f (first_fault (n + 1 + 1) next rest)) (no_fault (n + 1) s.0.answer given next (subst (λ o. Agrees o given) s.3 agrees))
      ∙ ap (λ w. first_fault (n + 1 + 1) w rest) (sym there)

-- ---- several steps

some_item : {X : Type 0} (xs : List X) (k : ℕ) → k < length xs → (x : X) × (slice_get xs k ≡ Some x)
some_item [] k below = absurd (omega arith)
some_item (x ∷ xs) zero below = (x, refl)
some_item (x ∷ xs) (suc k) below = some_item xs k (omega arith)

get_in_take : {X : Type 0} (xs : List X) (n k : ℕ) (x : X) → n < k → slice_get xs n ≡ Some x → slice_get (take k xs) n ≡ Some x
get_in_take [] n k x below e = cc
get_in_take (y ∷ xs) n zero x below e = absurd (omega (arith, below))
get_in_take (y ∷ xs) zero (suc k) x below e = e
get_in_take (y ∷ xs) (suc n) (suc k) x below e = get_in_take xs n k x (omega (arith, below)) e

-- the outcome of a step that applies
came : (o : Outcome) → IsOk o → (given : Answer) × (next : World) × (o ≡ Ok (given, next))
came (Ok (given, next)) ok = (given, next, refl)
came (Err reason) ok = absurd (grind (arith, ok))

-- if a recording of the first k steps is good, each of these steps applies
good_before : (run : Recording) (k : ℕ) → IsGood (record run { steps = take k run.steps }) → (n : ℕ) (step : Step) → n < k → slice_get run.steps n ≡ Some step → IsOk (outcome (world_at run n) step)
good_before run k good n step below read =
    let first : Recording = record run { steps = take k run.steps } in
    let there : world_at first n ≡ world_at run n = ap (λ steps. world_after (empty_world run.limits) steps) (take-take n k run.steps (omega (arith, below))) in
    subst (λ w. IsOk (outcome w step)) there (good n step (get_in_take run.steps n k step below read))

module _ (r : Recorded) where
  on_to : (k : ℕ) → ((n : ℕ) (step : Step) → n < k → slice_get (run_of r).steps n ≡ Some step → IsOk (outcome (world_at (run_of r) n) step)) → AnswersAgreeTo r k → k ≤ length r.steps → fault_from r 0 ≡ fault_from r k
  on_to zero applies agree within = refl
  on_to (suc k) applies agree within =
      let before = on_to k (λ n step below. applies n step (omega (arith, below))) (λ n given below. agree n given (omega (arith, below))) (omega (arith, within)) in
      let s = some_item r.steps k (omega (arith, within)) in
      let read : slice_get (run_of r).steps k ≡ Some s.0.step = slice_get-map (λ (x : RecordedStep). x.step) r.steps k ∙ ap (option_map (λ (x : RecordedStep). x.step)) s.1 in
      let ok = came (outcome (world_at (run_of r) k) s.0.step) (applies k s.0.step (omega arith) read) in
      let agrees = agree k ok.0 (omega arith) (answer_at-here (run_of r) k s.0.step ok.0 ok.1 read ok.2) in
      before ∙ step_on r k s.0.step ok.0 ok.1 read ok.2 agrees ∙ ap (fault_from r) (add-one k)

  within_run : (k : ℕ) → k < length (run_of r).steps → k < length r.steps
  within_run k below = omega (arith, below, steps_of_run r)

  -- the computed fault is the refusal of a step, if the earlier steps are good
  refused_found : (k : ℕ) (reason : Refusal) → IsRefusedAt (run_of r) k reason → AnswersAgreeTo r k → fault_from r 0 ≡ Some (load.Refused (k + 1) reason)
  refused_found k reason refused agree =
      let below = within_run k (slice_get_within (run_of r).steps k refused.step refused.next) in
      let s = step_there r k refused.step refused.next in
      let is : outcome (world_at (run_of r) k) s.0.step ≡ Err reason = subst (λ x. outcome (world_at (run_of r) k) x ≡ Err reason) (sym s.2) refused.refused in
      on_to k (good_before (run_of r) k refused.before) agree (omega (arith, below)) ∙ fault_at r k s.0 s.1
      ∙ ap (λ (o : Outcome). fault_or (step_fault (k + 1) s.0.answer o) (first_fault (k + 1 + 1) (next_of (world_at (run_of r) k) o) (drop (k + 1) r.steps))) is

  -- a step that gives an answer has an outcome with this answer
  gives_so : (k : ℕ) (given : Answer) → answer_at (run_of r) k ≡ Some given → (step : Step) × (next : World) × (slice_get (run_of r).steps k ≡ Some step) × (outcome (world_at (run_of r) k) step ≡ Ok (given, next))
  gives_so k given gives = from (slice_get (run_of r).steps k) refl gives
    where
      answers_so : (step : Step) (o : Outcome) → outcome (world_at (run_of r) k) step ≡ o → answer_of o ≡ Some given → (next : World) × (outcome (world_at (run_of r) k) step ≡ Ok (given, next))
      answers_so step (Ok (answer, next)) is e = let same : answer ≡ given = cc in (next, is ∙ ap (λ a. Ok (a, next)) same)
      answers_so step (Err reason) is e = absurd cc

      from : (o : Option Step) → slice_get (run_of r).steps k ≡ o → option_and_then (λ step. answer_of (outcome (world_at (run_of r) k) step)) o ≡ Some given
          → (step : Step) × (next : World) × (slice_get (run_of r).steps k ≡ Some step) × (outcome (world_at (run_of r) k) step ≡ Ok (given, next))
      from None is e = absurd cc
      from (Some step) is e = let o = answers_so step (outcome (world_at (run_of r) k) step) refl e in (step, o.0, is, o.1)

  -- if a step gives a different answer from the recorded one, and all earlier steps apply and give
  -- their recorded answers, the computed fault reports that step
  other_found : (k : ℕ) → AnswersOtherwiseAt r k → fault_from r 0 ≡ Some (load.OtherAnswer (k + 1))
  other_found k other =
      let g = gives_so k other.given other.gives in
      let below = within_run k (slice_get_within (run_of r).steps k g.0 g.2) in
      let s = step_there r k g.0 g.2 in
      let is : outcome (world_at (run_of r) k) s.0.step ≡ Ok (other.given, g.1) = subst (λ x. outcome (world_at (run_of r) k) x ≡ Ok (other.given, g.1)) (sym s.2) g.3 in
      let later = first_fault (k + 1 + 1) g.1 (drop (k + 1) r.steps) in
      on_to k (good_before (run_of r) k other.before) other.agree (omega (arith, below)) ∙ fault_at r k s.0 s.1
      ∙ ap (λ (o : Outcome). fault_or (step_fault (k + 1) s.0.answer o) (first_fault (k + 1 + 1) (next_of (world_at (run_of r) k) o) (drop (k + 1) r.steps))) is
      ∙ ap (λ f. fault_or f later) (other_answer (k + 1) s.0.answer other.given g.1 (subst (λ o. Differs o other.given) s.3 other.differs))

  -- a good recording has no computed fault
  none_found : IsGood (run_of r) → AnswersAgree r → fault_from r 0 ≡ None
  none_found good agree =
      on_to (length r.steps) (λ n step below. good n step) (λ n given below. agree n given) (omega arith)
      ∙ ap (first_fault (length r.steps + 1) (world_at (run_of r) (length r.steps))) (drop_all (length r.steps) r.steps (omega arith))

  -- the computed fault is the fault of the recording
  pub fault_found : (f : LoadFault) → IsStepFault r f → fault_from r 0 ≡ Some f
  fault_found (load.Memory refused) is = absurd is
  fault_found (load.Refused step reason) is = refused_found (step - 1) reason is.2 is.3 ∙ ap (λ n. Some (load.Refused n reason)) (omega (arith, is.0))
  fault_found (load.OtherAnswer step) is = other_found (step - 1) is.1 ∙ ap (λ n. Some (load.OtherAnswer n)) (omega (arith, is.0))

-- ---- the bytes

-- if `IsGoodText` holds for bytes and a run, opening the bytes gives this run
pub opened_good : (bytes : List ℕ) (run : Recording) → IsGoodText bytes run → opened bytes ≡ Ok run
opened_good bytes run is =
    let right = subst IsGood (sym is.run) is.good in
    ap opened_as (reading_again bytes is.recorded is.text) ∙ ap (λ f. run_or f is.recorded) (none_found is.recorded right is.answers) ∙ ap Ok is.run

-- a fault other than lack of memory
abbrev pub IsOwn : OpenFault → Type 0
IsOwn (Read (read.Memory refused)) = ⊥
IsOwn (Load (load.Memory refused)) = ⊥
IsOwn fault = Unit {0}

-- opening a text with a fault yields its first fault
pub opened_faulty : (bytes : List ℕ) (fault : OpenFault) → IsOwn fault → IsFirstFault bytes fault → opened bytes ≡ Err fault
opened_faulty bytes (Read (read.Memory refused)) own is = absurd own
opened_faulty bytes (Read (read.Line n f)) own is = ap opened_as is
opened_faulty bytes (Load (load.Memory refused)) own is = absurd own
opened_faulty bytes (Load (load.Refused step reason)) own is =
    ap opened_as (reading_again bytes is.0 is.1) ∙ ap (λ f. run_or f is.0) (fault_found is.0 (load.Refused step reason) is.2)
opened_faulty bytes (Load (load.OtherAnswer step)) own is =
    ap opened_as (reading_again bytes is.0 is.1) ∙ ap (λ f. run_or f is.0) (fault_found is.0 (load.OtherAnswer step) is.2)
