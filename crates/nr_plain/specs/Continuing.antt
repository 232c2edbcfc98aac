-- Extending a plan with a change to a descriptor.
use Rattle.std.specs.Prelude.{◌≡◌, ℕ, ◌+◌, ◌≤◌, length, Result, Ok, Err}
use Rattle.nr_rev.specs.declared.descriptor.DescriptorRow.{DescriptorRow}
use Rattle.nr_rev.specs.declared.refusal.Refusal.{Refusal}
use Rattle.nr_rev.specs.Descriptor.{Change}
use Rattle.nr_rev.specs.Step.{after_change}
use Rattle.nr_rev.specs.World.{World}
use Rattle.nr_plain.specs.declared.plan.Plan.{Plan}
use Rattle.nr_plain.specs.Plan.{CanEditAll, after_edits, total_weight}

-- true if the plan `after` extends `before` with this change to descriptor d
pub record Continues (d : ℕ) (row : DescriptorRow) (change : Change) (w : World)
    (before after : Plan) : Type 0 where
  pub answer : after.answer ≡ before.answer
  pub leads : after_change d row change (after_edits before.edits.items w)
      ≡ Ok (after_edits after.edits.items w)
  pub can : CanEditAll after.edits.items w
  pub light : total_weight after.edits.items ≤ total_weight before.edits.items + 42
  pub few : length after.edits.items ≤ length before.edits.items + 4

-- true if the change is added to the plan, or is refused for the same reason as in the machine
abbrev pub ContinuesOr : ℕ → DescriptorRow → Change → World → Plan → Result Plan Refusal → Type 0
ContinuesOr d row change w before (Ok after) = Continues d row change w before after
ContinuesOr d row change w before (Err reason) =
    after_change d row change (after_edits before.edits.items w) ≡ Err reason
