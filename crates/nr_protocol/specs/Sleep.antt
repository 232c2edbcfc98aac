-- No goroutine sleeps past a close or a deadline.
use Rattle.std.specs.Prelude.{◌≡◌, ℕ, Bool, true, false, ◌&&◌, List, slice_get, Option, Some, None}
use Rattle.nr_rev.specs.declared.sides.Side.{Side}
use Rattle.nr_rev.specs.declared.sides.Mode.{Mode}
use Rattle.nr_rev.specs.declared.step.Step.{Step}
use Rattle.nr_rev.specs.declared.descriptor.Descriptor.{Descriptor}
use Rattle.nr_rev.specs.declared.descriptor.DescriptorRow.{DescriptorRow}
use Rattle.nr_rev.specs.declared.descriptor.WaitWord.{WaitWord}
use Rattle.nr_rev.specs.declared.descriptor.WaitWord.TheVariants.{Wait, Held}
use Rattle.nr_rev.specs.declared.status.Status.{Status}
use Rattle.nr_rev.specs.declared.status.Status.TheVariants.{Parking, Parked}
use Rattle.nr_rev.specs.Sides.{of_side, is_read}
use Rattle.nr_rev.specs.Descriptor.{is_expired}
use Rattle.nr_rev.specs.WellFormed.{HasView}

-- the descriptor and side at which a goroutine is parked, or will park if its word is still `wait`
abbrev pub sleeping_of : Status → Option (ℕ × Side)
sleeping_of (Parking d side) = Some (d, side)
sleeping_of (Parked d side) = Some (d, side)
sleeping_of _ = None

-- true if a goroutine is parked in the word, or may park in it
abbrev pub is_waited_on : WaitWord → Bool
is_waited_on Wait = true
is_waited_on (Held g) = true
is_waited_on _ = false

-- A goroutine may sleep at a side: its descriptor isn't closing, and its deadline hasn't passed. If
-- `exact` is true, the side has no error event either.
abbrev pub MaySleep : Bool → Side → Descriptor → Type 0
MaySleep exact side d =
    (d.closing ≡ false) × (is_expired side d ≡ false)
    × (exact ≡ true → (is_read side && d.event_error) ≡ false)

-- each goroutine that is parked, or will park, may sleep there
pub record SleepersFit (exact : Bool) (goroutines : List Status)
    (descriptors : List DescriptorRow) : Type 0 where
  pub may_sleep : (g d : ℕ) (side : Side) (row : DescriptorRow)
      → HasView sleeping_of goroutines g (d, side) → slice_get descriptors d ≡ Some row
      → is_waited_on (of_side side row.descriptor.words) ≡ true → MaySleep exact side row.descriptor

-- true if an event that reports an error is for both sides, as each event of Linux is
abbrev pub IsOfLinux : Step → Type 0
IsOfLinux (Step.PollEvent d tag mode error) = error ≡ true → mode ≡ Mode.Both
IsOfLinux _ = Unit {0}
