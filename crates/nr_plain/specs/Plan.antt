-- The plan of a step: its answer and the changes to make.
use Rattle.std.specs.Prelude.{◌≡◌, ℕ, ◌+◌, ◌/◌, ◌≤◌, List, [], ◌∷◌, length, sum_by, Option, Result, Ok, Err}
use Rattle.nr_rev.specs.declared.refusal.Refusal.{Refusal}
use Rattle.nr_rev.specs.declared.step.Step.{Step}
use Rattle.nr_rev.specs.declared.step.Step.TheVariants.{SysRead, Drain}
use Rattle.nr_rev.specs.Step.{outcome}
use Rattle.nr_rev.specs.World.{World}
use Rattle.nr_rev.specs.Worlds.{bytes_left, refusal_of}
use Rattle.nr_plain.specs.declared.delta.TheConstants.{MOST_WORDS}
use Rattle.nr_plain.specs.declared.edit.Edit.{Edit}
use Rattle.nr_plain.specs.declared.plan.Plan.{Plan}
use Rattle.nr_plain.specs.declared.plan.TheConstants.{MOST_EDITS}
use Rattle.nr_plain.specs.Edit.{CanEdit, edit_weight, after_edit}

-- the world after changes are made one after the other
abbrev pub after_edits : List Edit → World → World
after_edits [] w = w
after_edits (edit ∷ edits) w = after_edits edits (after_edit edit w)

-- true if each change can be made after the ones before it
abbrev pub CanEditAll : List Edit → World → Type 0
CanEditAll [] w = Unit {0}
CanEditAll (edit ∷ edits) w = CanEdit edit w × CanEditAll edits (after_edit edit w)

-- the maximum number of words in the undos of these changes
abbrev pub total_weight : List Edit → ℕ
total_weight edits = sum_by edit_weight edits

-- true if the plan's changes can be made in w and have the outcome of the step, and their undos are
-- small enough
pub record LeadsTo (step : Step) (w : World) (plan : Plan) : Type 0 where
  pub answer : outcome w step ≡ Ok (plan.answer, after_edits plan.edits.items w)
  pub can : CanEditAll plan.edits.items w
  pub light : total_weight plan.edits.items ≤ MOST_WORDS + (bytes_left step plan.answer + 7) / 8
  pub few : length plan.edits.items ≤ MOST_EDITS

-- the reason why a step is refused
abbrev pub world_reason : World → Step → Option Refusal
world_reason w step = refusal_of (outcome w step)

-- true if the step removes no bytes from a buffer, and therefore allocates no memory
abbrev pub IsPlanned : Step → Type 0
IsPlanned (SysRead g s n) = ⊥
IsPlanned (Drain s n) = ⊥
IsPlanned _ = Unit {0}

-- true if the plan has the step's outcome, or the refusal has the step's reason
abbrev pub Plans : Step → World → Result Plan Refusal → Type 0
Plans step w (Ok plan) = LeadsTo step w plan
Plans step w (Err reason) = outcome w step ≡ Err reason
