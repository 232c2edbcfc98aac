-- Making a plan's changes produces the step's outcome, and the world remains well-formed.
use Rattle.std.proofs.Common.{◌≡◌, ◌≤◌, Bool, Result, Ok, Err, arith, sym, subst}
use Rattle.nr_rev.specs.declared.refusal.Refusal.{Refusal}
use Rattle.nr_rev.specs.declared.step.Step.{Step}
use Rattle.nr_rev.specs.declared.answer.Answer.{Answer}
use Rattle.nr_rev.specs.Auxiliary.Step.{IsTimely}
use Rattle.nr_rev.specs.World.{World}
use Rattle.nr_rev.specs.WellFormed.{WellFormed}
use Rattle.nr_laws.proofs.StepKeepsLemmas.{step_keeps}
use Rattle.nr_plain.specs.declared.delta.PlainDelta.{PlainDelta}
use Rattle.nr_plain.specs.declared.plan.Plan.{Plan}
use Rattle.nr_plain.specs.Delta.{PlainBack, delta_weight}
use Rattle.nr_plain.specs.Making.{Makes}
use Rattle.nr_plain.specs.Plan.{LeadsTo, after_edits, total_weight}

-- the world remains well-formed after a step
pub makes_well_formed : {Place : Type 0} (keeps : Bool) (holds : Place → PlainDelta → Type 0) (place : Place) (step : Step) (old new : World) (r : Result Answer Refusal)
    → IsTimely step → WellFormed old → Makes keeps holds place step old r new → WellFormed new
makes_well_formed {Place} keeps holds place step old new (Ok answer) timely fits made = step_keeps old step answer new timely fits made.0
makes_well_formed {Place} keeps holds place step old new (Err reason) timely fits made = subst WellFormed (sym made.1) fits

-- applying all edits of a plan makes the plan's step
pub plan_made : {Place : Type 0} (keeps : Bool) (holds : Place → PlainDelta → Type 0) (place : Place) (step : Step) (old new : World) (plan : Plan) (delta : PlainDelta)
    → LeadsTo step old plan → new ≡ after_edits plan.edits.items old → holds place delta → PlainBack delta new old → delta_weight delta ≤ total_weight plan.edits.items
    → Makes keeps holds place step old (Ok plan.answer) new
plan_made {Place} keeps holds place step old new plan delta leads is held back weight =
    let light = leads.light in
    (rw is leads.answer, λ _. (delta, held, (back, omega (arith, weight, light))))
