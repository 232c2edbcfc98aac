-- Helper definitions for `Answers`. The laws in THEOREM.md don't use them.
use Rattle.std.specs.Prelude.{List, [], ◌∷◌}
use Rattle.nr_recording.specs.Recording.{Recorded}
use Rattle.nr_recording.specs.declared.recording.RecordedStep.{RecordedStep}
use Rattle.nr_recording.specs.declared.version.Version.TheVariants.{Two}
use Rattle.nr_rev.specs.Run.{Recording, next_of}
use Rattle.nr_rev.specs.Step.{outcome}
use Rattle.nr_rev.specs.World.{World, empty_world}
use Rattle.nr_rev.specs.declared.step.Step.{Step}
use Rattle.nr_snaps.specs.Answers.{answer_of}

-- the steps, each with the answer that it gives, if the first step is applied to w
abbrev pub answered_steps : World → List Step → List RecordedStep
answered_steps w [] = []
answered_steps w (step ∷ steps) = record { step = step; answer = answer_of (outcome w step) }
    ∷ answered_steps (next_of w (outcome w step)) steps

-- the recording of a run in version 2: its limits, and its steps with the answers that they give
abbrev pub answered : Recording → Recorded
answered r = record {
  version = Two;
  limits = r.limits;
  steps = answered_steps (empty_world r.limits) r.steps;
}
