-- A change that follows the contract of a step's kind follows the contract of the step.
use Rattle.std.proofs.Common.{◌+◌, ◌/◌, Bool, inl, Ok, Err, Result, ap, subst, sym, arith}
use Rattle.nr_rev.specs.declared.answer.Answer.{Answer}
use Rattle.nr_rev.specs.declared.refusal.Refusal.{Refusal}
use Rattle.nr_rev.specs.declared.step.Step.{Step}
use Rattle.nr_rev.specs.Step.{outcome}
use Rattle.nr_rev.specs.Auxiliary.Step.{IsTimely}
use Rattle.nr_rev.specs.Worlds.{bytes_left, refusal_of}
use Rattle.nr_laws.proofs.StepKeepsLemmas.{step_keeps}
use Rattle.nr_machine.specs.declared.delta.TheConstants.{MOST_WORDS}
use Rattle.nr_machine.specs.declared.delta.WorldUndo.{WorldUndo}
use Rattle.nr_machine.specs.Asked.{asked_of}
use Rattle.nr_machine.specs.Fits.{IsWorld}
use Rattle.nr_machine.specs.Auxiliary.Made.{Made, Makes, MakesStep}
use Rattle.nr_machine.specs.World.{WorldParts, meant}

-- a step that is made, and whose undo is stored in the place
pub made_step : {Place : Type 0} (keeps : Bool) (holds : Place → WorldUndo → Type 0) (place : Place) (step : Step) (old : WorldParts) (answer : Answer) (undo : WorldUndo) (new : WorldParts)
    → holds place undo → Made (outcome (meant old) step) (asked_of old step) (MOST_WORDS + (bytes_left step answer + 7) / 8) old answer undo new
    → MakesStep keeps holds place step old (Ok answer) new
made_step {Place} keeps holds place step old answer undo new held made =
    (made.0, λ _. (undo, held, made.1))

-- a kind that allocates no memory
pub makes_step : {Place : Type 0} (keeps : Bool) (holds : Place → WorldUndo → Type 0) (place : Place) (step : Step) (old new : WorldParts) (r : Result Answer Refusal)
    → Makes holds place (outcome (meant old) step) (asked_of old step) old r new → MakesStep keeps holds place step old r new
makes_step {Place} keeps holds place step old new (Ok answer) some =
    let made = some.2 in
    let light = made.1.1 in
    (made.0, λ _. (some.0, some.1, (made.1.0, omega (arith, light))))
makes_step {Place} keeps holds place step old new (Err e) made = (inl (ap refusal_of made.0), made.1)

-- after a step, the world is again a packed world
pub made_fits : {Place : Type 0} (keeps : Bool) (holds : Place → WorldUndo → Type 0) (place : Place) (step : Step) (old new : WorldParts) (r : Result Answer Refusal)
    → IsTimely step → IsWorld old → MakesStep keeps holds place step old r new → IsWorld new
made_fits {Place} keeps holds place step old new (Ok answer) timely h made =
    record { meaning = step_keeps (meant old) step answer (meant new) timely h.meaning made.0.leads; parts = made.0.parts }
made_fits {Place} keeps holds place step old new (Err e) timely h made = subst IsWorld (sym made.1) h
