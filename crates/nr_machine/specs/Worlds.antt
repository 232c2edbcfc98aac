-- A packed world represents a world of the machine.
use Rattle.std.specs.Prelude.{◌≡◌, Ok}
use Rattle.nr_rev.specs.declared.answer.Answer.{Answer}
use Rattle.nr_rev.specs.declared.step.Step.{Step}
use Rattle.nr_rev.specs.Step.{outcome}
use Rattle.nr_rev.specs.WellFormed.{WellFormed}
use Rattle.nr_rev.specs.Worlds.{LosesBytes, bytes_left, refusal_of}
use Rattle.nr_machine.specs.Fits.{IsWorld}
use Rattle.nr_machine.specs.Made.{TakesMemory, parts_reason}
use Rattle.nr_machine.specs.Step.{StepTo}
use Rattle.nr_machine.specs.World.{WorldParts, meant}

-- a step of a packed world has the machine's outcome
pub steps_are : (old : WorldParts) (step : Step) (answer : Answer) (new : WorldParts)
    → StepTo old step answer new → outcome (meant old) step ≡ Ok (answer, meant new)
steps_are old step answer new leads = leads.leads

-- a packed world refuses a step for the same reason as the machine
pub reasons_are : (old : WorldParts) (step : Step)
    → parts_reason old step ≡ refusal_of (outcome (meant old) step)
reasons_are old step = λ _. parts_reason old step

-- if a step allocates memory, bytes leave a buffer
pub memory_is_for_bytes : (old : WorldParts) (step : Step) → TakesMemory old step
    → LosesBytes (meant old) step
memory_is_for_bytes old step loses = loses

-- the number of bytes that leave is the same as in the machine
pub bytes_out_are : (step : Step) (answer : Answer)
    → bytes_left step answer ≡ bytes_left step answer
bytes_out_are step answer = λ _. bytes_left step answer

-- a packed world represents a well-formed world
pub means_well_formed : (state : WorldParts) → IsWorld state → WellFormed (meant state)
means_well_formed state h = h.meaning
