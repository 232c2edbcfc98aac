-- The answers of a run, step by step, and the recorded answers.
use Rattle.std.proofs.Common.{◌≡◌, ℕ, ◌+◌, ◌<◌, ◌≤◌, ◌⊎◌, inl, inr, List, [], ◌∷◌, ◌++◌, length, map, take, Option, Some, None, Ok, refl, sym, ap, subst, ◌∙◌, arith}
use Rattle.std.specs.List.{slice_get}
use Rattle.std.specs.Prelude.{option_and_then}
use Rattle.std.proofs.lemmas.List.{take_more, length-map}
use Rattle.std.proofs.lemmas.Option.{slice_get_within, get_or_from_slice_get}
use Rattle.nr_recording.specs.Recording.{Recorded, run_of, recorded_at}
use Rattle.nr_recording.specs.declared.recording.RecordedStep.{RecordedStep}
use Rattle.nr_rev.specs.Run.{Recording, next_of, world_after, world_at}
use Rattle.nr_rev.specs.Auxiliary.Run.{IsWorldAt}
use Rattle.nr_rev.specs.Step.{outcome}
use Rattle.nr_rev.specs.World.{World, empty_world}
use Rattle.nr_rev.specs.declared.answer.Answer.{Answer}
use Rattle.nr_rev.specs.declared.step.Step.{Step}
use Rattle.nr_snaps.specs.Answers.{answer_of, answer_at, Agrees, AnswersAgreeTo, AnswersAgree}
use Rattle.nr_snaps.specs.Auxiliary.Answers.{answered_steps}

-- ---- the answer of a step

-- the answer of a step that applies
pub answer_at-here : (r : Recording) (n : ℕ) (step : Step) (answer : Answer) (next : World) → slice_get r.steps n ≡ Some step → outcome (world_at r n) step ≡ Ok (answer, next) → answer_at r n ≡ Some answer
answer_at-here r n step answer next read applies = rw (read, applies) refl

-- the answer of a step that is applied to a state at the step's position
pub answer_at-leads : {State : Type 0} (is_well_formed : State → Type 0) (world : State → World) (steps : State → Step → Answer → State → Type 0)
    (steps_are : (old : State) (step : Step) (answer : Answer) (new : State) → steps old step answer new → outcome (world old) step ≡ Ok (answer, world new))
    (r : Recording) (n : ℕ) (old new : State) (step : Step) (answer : Answer) → IsWorldAt is_well_formed world r n old → slice_get r.steps n ≡ Some step → steps old step answer new → answer_at r n ≡ Some answer
answer_at-leads is_well_formed world steps steps_are r n old new step answer is_at read leads =
    answer_at-here r n step answer (world new) read (subst (λ w. outcome w step ≡ Ok (answer, world new)) is_at.there (steps_are old step answer new leads))

-- a step with an answer is within the recording
pub answer_within : (r : Recording) (n : ℕ) (answer : Answer) → answer_at r n ≡ Some answer → n < length r.steps
answer_within r n answer gives =
    let there = some_read (slice_get r.steps n) (λ step. answer_of (outcome (world_at r n) step)) answer gives in
    slice_get_within r.steps n there.0 there.1
  where
    some_read : {A B : Type 0} (o : Option A) (f : A → Option B) (y : B) → option_and_then f o ≡ Some y → (x : A) × (o ≡ Some x)
    some_read (Some x) f y e = (x, refl)
    some_read None f y e = absurd cc

-- ---- recorded answers

pub agree-none : (r : Recorded) → AnswersAgreeTo r 0
agree-none r = λ k given below gives. absurd (omega (arith, below))

below-next : (k n : ℕ) → k < n + 1 → (k < n) ⊎ (k ≡ n)
below-next k n h = grind arith

-- if the first n steps agree, and the next step agrees too, the first n + 1 steps agree
pub agree-next : (r : Recorded) (n : ℕ) (given : Answer) → AnswersAgreeTo r n → answer_at (run_of r) n ≡ Some given → Agrees (recorded_at r n) given → AnswersAgreeTo r (n + 1)
agree-next r n given agree gives here = λ k other below also.
    elim (below-next k n below) [
      | inl less ↦ agree k other less also
      | inr same ↦ (
          let both : Some other ≡ Some given = sym also ∙ ap (answer_at (run_of r)) same ∙ gives in
          let one : given ≡ other = cc in
          subst (λ j. Agrees (recorded_at r j) other) (sym same) (subst (Agrees (recorded_at r n)) one here))
    ]

pub steps_of_run : (r : Recorded) → length (run_of r).steps ≡ length r.steps
steps_of_run r = simp length-map refl

-- all steps agree
pub agree-whole : (r : Recorded) (n : ℕ) → AnswersAgreeTo r n → length r.steps ≤ n → AnswersAgree r
agree-whole r n agree reached = λ k given gives.
    let within = answer_within (run_of r) k given gives in
    agree k given (omega (arith, within, steps_of_run r, reached)) gives

-- ---- the steps with their answers

-- if a step is appended to a list, the answered steps gain that step with its answer
answered_steps-push : (w : World) (steps : List Step) (step : Step)
    → answered_steps w (steps ++ step ∷ []) ≡ answered_steps w steps ++ record { step = step; answer = answer_of (outcome (world_after w steps) step) } ∷ []
answered_steps-push w [] step = refl
answered_steps-push w (first ∷ steps) step = ap (λ more. record { step = first; answer = answer_of (outcome w first) } ∷ more) (answered_steps-push (next_of w (outcome w first)) steps step)

-- the steps of answered_steps are those of the run
pub answered_steps-run : (w : World) (steps : List Step) → map (λ (s : RecordedStep). s.step) (answered_steps w steps) ≡ steps
answered_steps-run w [] = refl
answered_steps-run w (step ∷ steps) = ap (λ more. step ∷ more) (answered_steps-run (next_of w (outcome w step)) steps)

take-next : {X : Type 0} (xs : List X) (n : ℕ) (x : X) → slice_get xs n ≡ Some x → take (n + 1) xs ≡ take n xs ++ x ∷ []
take-next xs n x read =
    take_more xs n x (slice_get_within xs n x read) ∙ ap (λ y. take n xs ++ y ∷ []) (get_or_from_slice_get xs n x x read)

-- the first n + 1 answered steps are the first n answered steps and the next step with its answer
pub answered_steps-next : (r : Recording) (n : ℕ) (step : Step) (answer : Answer) → slice_get r.steps n ≡ Some step → answer_at r n ≡ Some answer
    → answered_steps (empty_world r.limits) (take (n + 1) r.steps) ≡ answered_steps (empty_world r.limits) (take n r.steps) ++ record { step = step; answer = Some answer } ∷ []
answered_steps-next r n step answer read gives =
    let origin = empty_world r.limits in
    let before = answered_steps origin (take n r.steps) in
    let given : answer_of (outcome (world_at r n) step) ≡ Some answer = sym (ap (option_and_then (λ s. answer_of (outcome (world_at r n) s))) read) ∙ gives in
    ap (answered_steps origin) (take-next r.steps n step read) ∙ answered_steps-push origin (take n r.steps) step
    ∙ ap (λ (a : Option Answer). before ++ record { step = step; answer = a } ∷ []) given
