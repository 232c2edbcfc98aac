-- The answers that the steps of a run give, compared with their recorded answers.
use Rattle.std.specs.Prelude.{◌≡◌, ◌≢◌, ℕ, ◌<◌, take, slice_get, Option, Some, None, option_and_then, Ok, Err}
use Rattle.nr_recording.specs.Recording.{Recorded, run_of, recorded_at}
use Rattle.nr_rev.specs.Run.{IsGood, Recording, world_at}
use Rattle.nr_rev.specs.Step.{Outcome, outcome}
use Rattle.nr_rev.specs.declared.answer.Answer.{Answer}

-- the answer of a step, if it applies
abbrev pub answer_of : Outcome → Option Answer
answer_of (Ok (answer, next)) = Some answer
answer_of (Err reason) = None

-- the answer that the step after position n gives
abbrev pub answer_at : Recording → ℕ → Option Answer
answer_at r n =
    option_and_then (λ step. answer_of (outcome (world_at r n) step)) (slice_get r.steps n)

-- true if the step has no recorded answer, or gave the recorded one
abbrev pub Agrees : Option Answer → Answer → Type 0
Agrees recorded given = (answer : Answer) → recorded ≡ Some answer → answer ≡ given

-- true if the step has a recorded answer and gave another one
abbrev pub Differs : Option Answer → Answer → Type 0
Differs recorded given = (answer : Answer) × (recorded ≡ Some answer) × (answer ≢ given)

-- true if each of the first n steps that has a recorded answer gives that answer
abbrev pub AnswersAgreeTo : Recorded → ℕ → Type 0
AnswersAgreeTo r n = (k : ℕ) (given : Answer) → k < n → answer_at (run_of r) k ≡ Some given
    → Agrees (recorded_at r k) given

-- true if each step that has a recorded answer gives that answer
abbrev pub AnswersAgree : Recorded → Type 0
AnswersAgree r = (k : ℕ) (given : Answer) → answer_at (run_of r) k ≡ Some given
    → Agrees (recorded_at r k) given

-- true if the first n steps apply and give their recorded answers, and the next step applies and
-- gives another answer
pub record AnswersOtherwiseAt (r : Recorded) (n : ℕ) : Type 0 where
  pub before : IsGood (record (run_of r) { steps = take n (run_of r).steps })
  pub agree : AnswersAgreeTo r n
  pub given : Answer
  pub gives : answer_at (run_of r) n ≡ Some given
  pub differs : Differs (recorded_at r n) given
