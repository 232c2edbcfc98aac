-- The contents of a recording, and the run that it records.
use Rattle.std.specs.Prelude.{ℕ, List, [], ◌∷◌, map, slice_get, Option, Some, None, option_and_then}
use Rattle.nr_rev.specs.Run.{Recording}
use Rattle.nr_rev.specs.declared.answer.Answer.{Answer}
use Rattle.nr_rev.specs.declared.limits.Limits.{Limits}
use Rattle.nr_rev.specs.declared.step.Step.{Step}
use Rattle.nr_recording.specs.declared.recording.RecordedStep.{RecordedStep}
use Rattle.nr_recording.specs.declared.version.Version.{Version}

-- the contents of a recording: the format's version, the limits, and the steps in order with their
-- recorded answers
pub record Recorded : Type 0 where
  pub version : Version
  pub limits : Limits
  pub steps : List RecordedStep

-- the steps with their answers, taken in order; steps beyond the last answer have none
abbrev pub recorded : List Step → List Answer → List RecordedStep
recorded [] answers = []
recorded (step ∷ steps) [] = record { step = step; answer = None } ∷ recorded steps []
recorded (step ∷ steps) (answer ∷ answers) = record { step = step; answer = Some answer }
    ∷ recorded steps answers

-- the recorded run: its limits and steps
abbrev pub run_of : Recorded → Recording
run_of r = record { limits = r.limits; steps = map (λ recorded. recorded.step) r.steps }

-- the recorded answer of the step after position n, if any
abbrev pub recorded_at : Recorded → ℕ → Option Answer
recorded_at r n = option_and_then (λ recorded. recorded.answer) (slice_get r.steps n)
