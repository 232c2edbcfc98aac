-- The machine's state.
use Rattle.std.specs.Prelude.{ℕ, Bool, false, ◌&&◌, ◌==◌, ℤ, pos, List, [], ◌∷◌, map, slice_set, Option, Some, None}
use Rattle.std.specs.List.{list_any}
use Rattle.nr_rev.specs.declared.limits.Limits.{Limits}
use Rattle.nr_rev.specs.declared.sides.Side.{Side}
use Rattle.nr_rev.specs.declared.status.Status.{Status}
use Rattle.nr_rev.specs.declared.status.Status.TheVariants.{Idle, Entering, Armed, Parking, Parked, Swapping, Checking}
use Rattle.nr_rev.specs.Sides.{same_side}
use Rattle.nr_rev.specs.declared.timer.Entry.{Entry}
use Rattle.nr_rev.specs.Timer.{entries_from, least_of}
use Rattle.nr_rev.specs.declared.descriptor.Descriptor.{Descriptor}
use Rattle.nr_rev.specs.Socket.{Socket}
use Rattle.nr_rev.specs.declared.descriptor.DescriptorRow.{DescriptorRow}

-- the state of the machine: tables of goroutines, sockets and descriptors, each indexed by number,
-- the firings of the timer queue, and counters
pub record World : Type 0 where
  -- the maximum numbers of goroutines, sockets and descriptors, and the maximum capacity of a
  -- buffer
  pub limits : Limits
  -- the status of each goroutine, by its number, from 0
  pub goroutines : List Status
  -- the sockets, by number, from 0
  pub sockets : List Socket
  -- the descriptors and the timers armed for them, by number, from 0; closed ones stay
  pub descriptors : List DescriptorRow
  -- the firings: timers that went off and haven't been run yet, in the order in which they went
  -- off; the number of a firing is its index
  pub firings : List Entry
  -- the numbers of closed descriptors, in the order in which they are reused: the last closed first
  pub free : List ℕ
  -- the current time, in nanoseconds from the beginning of the recording
  pub clock : ℤ
  -- the number of wait words that hold a parked goroutine: `netpollWaiters`
  pub waiters : ℕ
  -- the arming number of the next timer to be armed, counted from 1
  pub next_arming : ℕ

-- the state before the first step: goroutine 0 idle, nothing opened, the clock at 0, arming numbers
-- from 1
abbrev pub empty_world : Limits → World
empty_world limits =
    record {
      limits = limits;
      goroutines = Idle ∷ [];
      sockets = [];
      descriptors = [];
      firings = [];
      free = [];
      clock = pos 0;
      waiters = 0;
      next_arming = 1;
    }

-- true if a descriptor is one of the free ones
abbrev pub is_free_number : ℕ → List ℕ → Bool
is_free_number d free = list_any (λ f. d == f) free

-- the timer heap's entries
abbrev pub entries_of : List DescriptorRow → List Entry
entries_of descriptors = entries_from 0 (map (λ row. row.timers) descriptors)

-- the heap entry that goes off first, if a timer is armed
abbrev pub least_entry : World → Option Entry
least_entry w = least_of (entries_of w.descriptors)

-- if a goroutine with this status is inside a wait, the descriptor and side of the wait
abbrev pub wait_of : Status → Option (ℕ × Side)
wait_of (Entering d side) = Some (d, side)
wait_of (Armed d side) = Some (d, side)
wait_of (Parking d side) = Some (d, side)
wait_of (Parked d side) = Some (d, side)
wait_of (Swapping d side) = Some (d, side)
wait_of (Checking d side) = Some (d, side)
wait_of _ = None

-- true if the given wait exists and is at this side of descriptor d
abbrev pub is_wait_at : ℕ → Side → Option (ℕ × Side) → Bool
is_wait_at d side None = false
is_wait_at d side (Some place) = (d == place.0) && same_side side place.1

-- true if a goroutine is inside a wait at this side of the descriptor
abbrev pub is_waited : ℕ → Side → List Status → Bool
is_waited d side goroutines = list_any (λ status. is_wait_at d side (wait_of status)) goroutines

-- the world with a new status of goroutine g
abbrev pub with_status : ℕ → Status → World → World
with_status g status w = record w { goroutines = slice_set w.goroutines g status }

-- the world with a new socket s
abbrev pub with_socket : ℕ → Socket → World → World
with_socket s socket w = record w { sockets = slice_set w.sockets s socket }

-- the world with a new row of descriptor d: its state and its timers
abbrev pub with_row : ℕ → DescriptorRow → World → World
with_row d row w = record w { descriptors = slice_set w.descriptors d row }

-- the world with a new state of descriptor d and the timers of its old row
abbrev pub with_descriptor : ℕ → DescriptorRow → Descriptor → World → World
with_descriptor d row descriptor w = with_row d (record row { descriptor = descriptor }) w
