-- The number of goroutines inside a wait at each side of a descriptor.
use Rattle.std.specs.Prelude.{◌≡◌, ℕ, ◌+◌, ◌-◌, ◌^◌, ◌<◌, List, count_by, slice_get, slice_set, Option, Some, None, option_map}
use Rattle.nr_rev.specs.declared.sides.Side.{Side}
use Rattle.nr_rev.specs.declared.sides.Sides.{Sides}
use Rattle.nr_rev.specs.declared.status.Status.{Status}
use Rattle.nr_rev.specs.Sides.{of_side, with_side}
use Rattle.nr_rev.specs.World.{is_wait_at, wait_of}

-- the number of these goroutines that are inside a wait at a descriptor's side
abbrev pub waiting_at : ℕ → Side → List Status → ℕ
waiting_at d side goroutines = count_by (λ status. is_wait_at d side (wait_of status)) goroutines

-- the count at a side of descriptor d, or none if d isn't below the limit
abbrev pub waiting_of : ℕ → Side → List (Sides ℕ) → Option ℕ
waiting_of d side counts = option_map (of_side side) (slice_get counts d)

-- the counts after a change to the count at one side of descriptor d, if d has counts
abbrev pub on_count : ℕ → Side → (ℕ → ℕ) → Option (Sides ℕ) → List (Sides ℕ) → List (Sides ℕ)
on_count d side change None counts = counts
on_count d side change (Some both) counts =
    slice_set counts d (with_side side (change (of_side side both)) both)

-- the counts after a change to the count of a wait, if one is given
abbrev pub on_wait : (ℕ → ℕ) → Option (ℕ × Side) → List (Sides ℕ) → List (Sides ℕ)
on_wait change None counts = counts
on_wait change (Some place) counts =
    on_count place.0 place.1 change (slice_get counts place.0) counts

-- the counts after a goroutine left a wait, if one is given
abbrev pub left : Option (ℕ × Side) → List (Sides ℕ) → List (Sides ℕ)
left place counts = on_wait (λ n. n - 1) place counts

-- the counts after a goroutine joined a wait, if one is given
abbrev pub joined : Option (ℕ × Side) → List (Sides ℕ) → List (Sides ℕ)
joined place counts = on_wait (λ n. n + 1) place counts

-- the counts after a goroutine's status changed
abbrev pub moved_between : Status → Status → List (Sides ℕ) → List (Sides ℕ)
moved_between before after counts = joined (wait_of after) (left (wait_of before) counts)

-- true if the count of the wait, if any, can grow by one
abbrev pub CanJoin : Option (ℕ × Side) → List (Sides ℕ) → Type 0
CanJoin None counts = Unit {0}
CanJoin (Some place) counts =
    (both : Sides ℕ) → slice_get counts place.0 ≡ Some both → of_side place.1 both + 1 < 2 ^ 32

-- true if the counts are correct for these goroutines
abbrev pub AreCounts : List (Sides ℕ) → List Status → Type 0
AreCounts counts goroutines =
    (d : ℕ) (side : Side) (both : Sides ℕ) → slice_get counts d ≡ Some both
    → of_side side both ≡ waiting_at d side goroutines
