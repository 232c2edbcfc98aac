-- The laws that `Reversible` requires, for packed worlds.
use Rattle.std.proofs.Common.{◌≡◌, ◌≤◌, List, [], ◌∷◌, Some, None, Ok, Err, sym, ap, subst, ◌∙◌, lit≤}
use Rattle.nr_rev.specs.declared.answer.Answer.{Answer}
use Rattle.nr_rev.specs.declared.refusal.Refusal.{Refusal}
use Rattle.nr_rev.specs.Refusing.{out_of_memory}
use Rattle.nr_rev.specs.declared.step.Step.{Step}
use Rattle.nr_rev.specs.Step.{Outcome, outcome}
use Rattle.nr_rev.specs.Worlds.{refusal_of}
use Rattle.nr_laws.proofs.StepKeepsLemmas.{none_for_memory}
use Rattle.nr_sockbuf.specs.Laws.{same_pairs}
use Rattle.nr_timers.specs.ReversibleLaws as timers
use Rattle.nr_timers.specs.State.{State}
use Rattle.nr_timers.specs.declared.op.TimersOp.{TimersOp}
use Rattle.nr_machine.specs.declared.delta.TheConstants.{MOST_WORDS}
use Rattle.nr_machine.specs.Asked.{TimersMade, asked_of}
use Rattle.nr_machine.specs.Fits.{IsWorld}
use Rattle.nr_machine.specs.Made.{parts_reason}
use Rattle.nr_machine.specs.SameLaws.{same_parts}
use Rattle.nr_machine.specs.Step.{StepTo}
use Rattle.nr_machine.specs.World.{WorldParts, meant}

-- a step that has a reason for refusal doesn't apply
pub refused_has_no_step : (old : WorldParts) (step : Step) (e : Refusal) (answer : Answer)
    (new : WorldParts) → parts_reason old step ≡ Some e → StepTo old step answer new → ⊥
refused_has_no_step old step e answer new reason is =
    absurd (let none : Some e ≡ None = sym reason ∙ ap refusal_of is.leads in cc)

-- operations on the timers have only one result
TimersMade-unique : (asked : List TimersOp) (old new other : State) → TimersMade asked old new
    → TimersMade asked old other → new ≡ other
TimersMade-unique [] old new other x y = x ∙ sym y
TimersMade-unique (op ∷ asked) old new other x y =
    let mids : x.0 ≡ y.0 = (timers.steps_unique old op tt tt x.0 y.0 x.1 y.1).1 in
    TimersMade-unique asked y.0 new other
    (subst (λ (mid : State). TimersMade asked mid new) mids x.2) y.2

-- a step has only one outcome
pub steps_unique : (old : WorldParts) (step : Step) (a b : Answer) (new other : WorldParts)
    → StepTo old step a new → StepTo old step b other → (a ≡ b) × (new ≡ other)
steps_unique old step a b new other p q =
    let same = same_pairs a b (meant new) (meant other) (sym p.leads ∙ q.leads) in (
      same.0,
      same_parts new other p.parts q.parts same.1
          (TimersMade-unique (asked_of old step) old.core.timers new.core.timers other.core.timers
          p.timers q.timers),
    )

-- the bound on a delta's weight is the same for each step
pub weight_is_within : (step : Step) → MOST_WORDS ≤ MOST_WORDS
weight_is_within step = lit≤ tt

-- if an outcome's reason for refusal is e, the outcome is the error e
refused_for : (o : Outcome) (e : Refusal) → refusal_of o ≡ Some e → ◌≡◌ {A = Outcome} o (Err e)
refused_for (Ok left) e is = cc
refused_for (Err reason) e is = cc

-- `parts_reason` never says that memory ran out
pub memory_is_no_reason : (m : WorldParts) (step : Step) → IsWorld m
    → parts_reason m step ≡ Some out_of_memory → ⊥
memory_is_no_reason m step h is =
    none_for_memory (meant m) step h.meaning (refused_for (outcome (meant m) step) out_of_memory is)
