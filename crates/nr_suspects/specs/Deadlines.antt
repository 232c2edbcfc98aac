-- When a deadline passes.
use Rattle.std.specs.Prelude.{◌≡◌, true, ◌≤ℤ◌, IsTrue}
use Rattle.nr_rev.specs.declared.descriptor.DescriptorRow.{DescriptorRow}
use Rattle.nr_rev.specs.declared.sides.Side.{Side}
use Rattle.nr_rev.specs.declared.timer.Entry.{Entry}
use Rattle.nr_rev.specs.Descriptor.{is_positive}
use Rattle.nr_rev.specs.Sides.{covers_side, of_side}
use Rattle.nr_rev.specs.World.{World}

-- The firing is in time. For each side that the timer serves, the timer was armed for the side's
-- current deadline, and that deadline hadn't already been marked as passed. The clock has reached
-- the time for which the timer was armed.
pub record IsInTime (w : World) (row : DescriptorRow) (firing : Entry) : Type 0 where
  pub set : (side : Side) → covers_side firing.timer.function side ≡ true
      → of_side side row.descriptor.deadlines ≡ firing.timer.due
  pub ahead : (side : Side) → covers_side firing.timer.function side ≡ true
      → IsTrue (is_positive (of_side side row.descriptor.deadlines))
  pub come : firing.timer.due ≤ℤ w.clock
