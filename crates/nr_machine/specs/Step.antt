-- A step of a packed world: the machine's step, which also determines the timers' places in the
-- heap.
use Rattle.std.specs.Prelude.{◌≡◌, Ok}
use Rattle.nr_rev.specs.declared.answer.Answer.{Answer}
use Rattle.nr_rev.specs.declared.step.Step.{Step}
use Rattle.nr_rev.specs.Step.{outcome}
use Rattle.nr_machine.specs.Asked.{TimersMade, asked_of}
use Rattle.nr_machine.specs.Fits.{IsWorld, PartsFit}
use Rattle.nr_machine.specs.World.{WorldParts, meant}

-- The step turns a packed world into parts that satisfy `PartsFit` and represent the machine's next
-- world. The operations that the step requests turn the old timers into the new ones, so each entry
-- has only one place in the heap.
pub record StepTo (old : WorldParts) (step : Step) (answer : Answer) (new : WorldParts) : Type 0
  where
    pub world : IsWorld old
    pub leads : outcome (meant old) step ≡ Ok (answer, meant new)
    pub parts : PartsFit new
    pub timers : TimersMade (asked_of old step) old.core.timers new.core.timers
