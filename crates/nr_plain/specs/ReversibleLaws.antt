-- The laws that `Reversible` requires of a world over lists.
use Rattle.std.proofs.Common.{◌≡◌, ◌≤◌, Some, None, Ok, Err, sym, ap, ◌∙◌, lit≤}
use Rattle.nr_rev.specs.declared.answer.Answer.{Answer}
use Rattle.nr_rev.specs.declared.refusal.Refusal.{Refusal}
use Rattle.nr_rev.specs.Refusing.{out_of_memory}
use Rattle.nr_rev.specs.declared.step.Step.{Step}
use Rattle.nr_rev.specs.Step.{Outcome, outcome}
use Rattle.nr_rev.specs.Auxiliary.Step.{StepTo}
use Rattle.nr_rev.specs.WellFormed.{WellFormed}
use Rattle.nr_rev.specs.World.{World}
use Rattle.nr_rev.specs.Worlds.{refusal_of}
use Rattle.nr_rev.proofs.LeadsBackLemmas.{LeadsBack-unique}
use Rattle.nr_rev.proofs.OutcomeLemmas.{same_parts}
use Rattle.nr_laws.proofs.StepKeepsLemmas.{none_for_memory}
use Rattle.nr_plain.specs.declared.delta.PlainDelta.{PlainDelta}
use Rattle.nr_plain.specs.declared.delta.TheConstants.{MOST_WORDS}
use Rattle.nr_plain.specs.declared.edit.Undo.{Undo}
use Rattle.nr_plain.specs.Delta.{PlainBack}
use Rattle.nr_plain.specs.Edit.{Undoes}
use Rattle.nr_plain.specs.Plan.{world_reason}

-- a step with a reason for refusal doesn't apply
pub refused_has_no_step : (old : World) (step : Step) (e : Refusal) (answer : Answer) (new : World)
    → world_reason old step ≡ Some e → StepTo old step answer new → ⊥
refused_has_no_step old step e answer new reason is =
    absurd (let none : Some e ≡ None = sym reason ∙ ap refusal_of is in cc)

-- a step has exactly one outcome
pub steps_unique : (old : World) (step : Step) (a b : Answer) (new other : World)
    → StepTo old step a new → StepTo old step b other → (a ≡ b) × (new ≡ other)
steps_unique old step a b new other p q = same_parts a b new other (sym p ∙ q)

-- the bound on a delta's weight is the same for each step
pub weight_is_within : (step : Step) → MOST_WORDS ≤ MOST_WORDS
weight_is_within step = lit≤ tt

-- if an outcome's reason for refusal is e, the outcome is the error e
refused_for : (o : Outcome) (e : Refusal) → refusal_of o ≡ Some e → ◌≡◌ {A = Outcome} o (Err e)
refused_for (Ok left) e is = cc
refused_for (Err reason) e is = cc

-- `world_reason` never says that memory ran out
pub memory_is_no_reason : (w : World) (step : Step) → WellFormed w
    → world_reason w step ≡ Some out_of_memory → ⊥
memory_is_no_reason w step h is = none_for_memory w step h (refused_for (outcome w step) _ is)

-- undoing a change has only one result, and so has undoing a delta
pub Undoes-unique : (undo : Undo) (new a b : World) → Undoes undo new a → Undoes undo new b → a ≡ b
Undoes-unique undo new a b p q = p.1 ∙ sym q.1

pub PlainBack-unique : (delta : PlainDelta) (new a b : World) → PlainBack delta new a
    → PlainBack delta new b → a ≡ b
PlainBack-unique delta new a b p q =
    LeadsBack-unique Undoes Undoes-unique delta.undos.items new a b p q
