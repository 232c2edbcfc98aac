-- The laws that `Worlds` requires: the world over lists behaves like the machine's world that it
-- models.
use Rattle.std.specs.Prelude.{◌≡◌, Ok}
use Rattle.nr_rev.specs.declared.answer.Answer.{Answer}
use Rattle.nr_rev.specs.declared.step.Step.{Step}
use Rattle.nr_rev.specs.Step.{outcome}
use Rattle.nr_rev.specs.Auxiliary.Step.{StepTo}
use Rattle.nr_rev.specs.WellFormed.{WellFormed}
use Rattle.nr_rev.specs.World.{World}
use Rattle.nr_rev.specs.Worlds.{LosesBytes, bytes_left, refusal_of}
use Rattle.nr_plain.specs.Plan.{world_reason}

-- the world of the machine that a plain world represents; the model of a plain world is already a
-- world of the machine
abbrev pub meant : World → World
meant w = w

-- a step of a plain world has the machine's outcome
pub steps_are : (old : World) (step : Step) (answer : Answer) (new : World)
    → StepTo old step answer new → outcome old step ≡ Ok (answer, new)
steps_are old step answer new leads = leads

-- a plain world refuses a step for the same reason as the machine does
pub reasons_are : (old : World) (step : Step)
    → world_reason old step ≡ refusal_of (outcome old step)
reasons_are old step = λ _. world_reason old step

-- a step that allocates memory removes bytes from a buffer
pub memory_is_for_bytes : (old : World) (step : Step) → LosesBytes old step → LosesBytes old step
memory_is_for_bytes old step loses = loses

-- a step removes the same number of bytes as in the machine
pub bytes_out_are : (step : Step) (answer : Answer)
    → bytes_left step answer ≡ bytes_left step answer
bytes_out_are step answer = λ _. bytes_left step answer

-- a well-formed plain world represents a well-formed world of the machine
pub means_well_formed : (state : World) → WellFormed state → WellFormed state
means_well_formed state fits = fits
