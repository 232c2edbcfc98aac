-- Each deadline has its timer.
use Rattle.std.specs.Prelude.{◌≡◌, ℕ, true, false, List, slice_get, Some}
use Rattle.nr_rev.specs.declared.sides.Side.{Side}
use Rattle.nr_rev.specs.declared.descriptor.DescriptorRow.{DescriptorRow}
use Rattle.nr_rev.specs.declared.timer.Entry.{Entry}
use Rattle.nr_rev.specs.Sides.{of_side, covers_side}
use Rattle.nr_rev.specs.Descriptor.{wants_timer}
use Rattle.nr_rev.specs.WellFormed.{TimerPlace, IsCurrent, timer_at}

-- a side of descriptor d has a current timer, which is armed or has gone off and waits to be run
abbrev pub HasTimer : List DescriptorRow → List Entry → ℕ → Side → Type 0
HasTimer descriptors firings d side =
    (p : TimerPlace) × (e : Entry) × (timer_at descriptors firings p ≡ Some e)
    × (e.descriptor ≡ d) × (e.side ≡ side) × IsCurrent descriptors e

-- a current timer of descriptor d, armed or gone off, will make the side's deadline pass
abbrev pub WillPass : List DescriptorRow → List Entry → ℕ → Side → DescriptorRow → Type 0
WillPass descriptors firings d side row =
    (p : TimerPlace) × (e : Entry) × (timer_at descriptors firings p ≡ Some e)
    × (e.descriptor ≡ d) × (covers_side e.timer.function side ≡ true)
    × (e.timer.due ≡ of_side side row.descriptor.deadlines) × IsCurrent descriptors e

-- each side that needs a timer has a current one, unless its descriptor is closing
pub record DeadlinesTimed (descriptors : List DescriptorRow) (firings : List Entry) : Type 0 where
  pub timed : (d : ℕ) (side : Side) (row : DescriptorRow) → slice_get descriptors d ≡ Some row
      → row.descriptor.closing ≡ false → wants_timer side row.descriptor ≡ true
      → HasTimer descriptors firings d side
