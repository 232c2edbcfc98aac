-- The invariant of every world that steps can reach.
use Rattle.std.specs.Prelude.{◌≡◌, ℕ, ◌+◌, ◌*◌, ◌^◌, ◌<◌, ◌≤◌, Bool, true, false, ◌&&◌, ◌==◌, ◌⊎◌, ◌↔◌, ℤ, pos, ◌≤ℤ◌, List, length, sum_by, count_by, All, slice_get, Option, Some, None, option_map, option_and_then, IsTrue}
use Rattle.nr_rev.specs.declared.sides.Side.{Side}
use Rattle.nr_rev.specs.declared.descriptor.WaitWord.{WaitWord}
use Rattle.nr_rev.specs.declared.descriptor.WaitWord.TheVariants.{Nil, Ready, Held}
use Rattle.nr_rev.specs.declared.status.Status.{Status}
use Rattle.nr_rev.specs.declared.status.Status.TheVariants.{Acquiring, Queued, Relock, Owing, Armed, Parking, Parked, Swapping}
use Rattle.nr_rev.specs.Sides.{of_side, twice, same_side, covers_side, side_of_function}
use Rattle.nr_rev.specs.declared.lock.Lock.{Lock}
use Rattle.nr_rev.specs.Lock.{bit}
use Rattle.nr_rev.specs.declared.timer.Timer.{Timer}
use Rattle.nr_rev.specs.declared.timer.Entry.{Entry}
use Rattle.nr_rev.specs.Timer.{IsTime}
use Rattle.nr_rev.specs.declared.descriptor.Descriptor.{Descriptor}
use Rattle.nr_rev.specs.Descriptor.{is_positive, is_combo, timer_function}
use Rattle.nr_rev.specs.Socket.{Socket}
use Rattle.nr_rev.specs.declared.descriptor.DescriptorRow.{DescriptorRow}
use Rattle.nr_rev.specs.World.{World, is_free_number, wait_of}

-- true if a is the view of goroutine g's status
abbrev pub HasView : {A : Type 0} → (Status → Option A) → List Status → ℕ → A → Type 0
HasView view goroutines g a = option_and_then view (slice_get goroutines g) ≡ Some a

-- true if goroutine g is inside a wait on a side of descriptor d
abbrev pub IsInside : List Status → ℕ → ℕ → Side → Type 0
IsInside goroutines g d side = HasView wait_of goroutines g (d, side)

-- the descriptor and side at which a goroutine is parked
abbrev pub parked_of : Status → Option (ℕ × Side)
parked_of (Parked d side) = Some (d, side)
parked_of _ = None

-- The descriptor and side at which the goroutine waits, if its status allows the side's wait word
-- to be `wait`.
abbrev pub awaiting_of : Status → Option (ℕ × Side)
awaiting_of (Armed d side) = Some (d, side)
awaiting_of (Parking d side) = Some (d, side)
awaiting_of (Swapping d side) = Some (d, side)
awaiting_of _ = None

-- the releases that a goroutine owes
abbrev pub owed_of : Status → Option (ℕ × ℕ)
owed_of (Owing s reads writes) = Some (reads, writes)
owed_of _ = None

-- true if descriptor d's wait word for a side is this one
abbrev pub HasWaitWord : List DescriptorRow → ℕ → Side → WaitWord → Type 0
HasWaitWord descriptors d side word =
    option_map (λ (row : DescriptorRow). of_side side row.descriptor.words)
    (slice_get descriptors d) ≡ Some word

-- true if d is among the descriptors that were made, and isn't free
abbrev pub IsOpen : List DescriptorRow → List ℕ → ℕ → Type 0
IsOpen descriptors free d = (d < length descriptors) × (is_free_number d free ≡ false)

-- the socket that a status names
abbrev pub socket_named : Status → Option ℕ
socket_named (Acquiring s side) = Some s
socket_named (Queued s side) = Some s
socket_named (Relock s side) = Some s
socket_named (Owing s reads writes) = Some s
socket_named _ = None

-- true if g is queued at a semaphore
abbrev pub is_queued : ℕ → Side → Option Status → Bool
is_queued s side (Some (Queued s' side')) = (s == s') && same_side side side'
is_queued s side _ = false

-- true if a number fits a field of 20 bits
abbrev pub IsField : ℕ → Type 0
IsField n = n < 2 ^ 20

-- true if a word holds a goroutine
abbrev pub is_held : WaitWord → Bool
is_held (Held g) = true
is_held _ = false

-- the number of words of a descriptor that hold a goroutine
abbrev pub held_count : DescriptorRow → ℕ
held_count row = bit (is_held row.descriptor.words.read) + bit (is_held row.descriptor.words.write)

-- true if the armed timer of a side of descriptor d fits the descriptor
pub record EntryFits (d : Descriptor) (side : Side) (timer : Timer) : Type 0 where
  pub sequence : timer.sequence ≡ of_side side d.sequences
  pub running : of_side side d.running ≡ true
  pub positive : IsTrue (is_positive timer.due)
  pub due : timer.due ≡ of_side side d.deadlines
  pub function : timer.function ≡ timer_function side d

-- a firing of d isn't stale: each side that it serves still has the deadline for which its timer
-- was armed
pub record IsDueFor (d : Descriptor) (firing : Entry) : Type 0 where
  pub positive : (side : Side) → covers_side firing.timer.function side ≡ true
      → IsTrue (is_positive (of_side side d.deadlines))
  pub due : (side : Side) → covers_side firing.timer.function side ≡ true
      → firing.timer.due ≡ of_side side d.deadlines
  pub running : of_side firing.side d.running ≡ true
  pub function : firing.timer.function ≡ timer_function firing.side d

-- True if a firing fits descriptor d: its side is the one that its timer function uses, and its
-- sequence is at most that side's current sequence in d. If the sequences are equal, each side that
-- the function covers still has the deadline for which the timer was armed.
pub record FiringFits (d : Descriptor) (firing : Entry) : Type 0 where
  pub side : firing.side ≡ side_of_function firing.timer.function
  pub sequence : firing.timer.sequence ≤ of_side firing.side d.sequences
  pub due : IsTime firing.timer.due
  pub current : firing.timer.sequence ≡ of_side firing.side d.sequences → IsDueFor d firing

-- a descriptor's row: its armed timers fit its deadlines, no write timer runs if both deadlines are
-- the same, no timer runs while it is closing, and its numbers fit in 64 bits
pub record RowFits (row : DescriptorRow) : Type 0 where
  pub entries : (side : Side) (timer : Timer) → of_side side row.timers ≡ Some timer
      → EntryFits row.descriptor side timer
  pub combo : is_combo row.descriptor ≡ true → row.descriptor.running.write ≡ false
  pub closing : row.descriptor.closing ≡ true → row.descriptor.running ≡ twice false
  pub sequences : (side : Side) → of_side side row.descriptor.sequences < 2 ^ 64
  pub fdseq : row.descriptor.fdseq < 2 ^ 64
  pub times : (side : Side) → IsTime (of_side side row.descriptor.deadlines)

-- the counts of a lock fit their fields of 20 bits
pub record LockFits (lock : Lock) : Type 0 where
  pub references : IsField lock.references
  pub waiters : (side : Side) → IsField (of_side side lock.waiters)

-- a socket under a buffer limit: its lock fits, its counts fit in 32 bits, and its buffers hold no
-- more than their capacities, which are from 1 to the limit
pub record SocketFits (buffer : ℕ) (socket : Socket) : Type 0 where
  pub lock : LockFits socket.lock
  pub counts : (side : Side) → (of_side side socket.semaphores).count < 2 ^ 32
  pub bytes : (side : Side) → length (of_side side socket.buffers).bytes ≤
      (of_side side socket.buffers).capacity
  pub capacities : (side : Side) → (0 < (of_side side socket.buffers).capacity)
      × ((of_side side socket.buffers).capacity ≤ buffer)

-- the place of an entry or a firing: armed at a descriptor's side, or in the list of firings
pub data TimerPlace : Type 0 where
  ArmedAt : ℕ → Side → TimerPlace
  FiringAt : ℕ → TimerPlace

-- the heap entry at a side of descriptor d, if a timer is armed there
abbrev pub armed_at : ℕ → Side → DescriptorRow → Option Entry
armed_at d side row = option_map (λ timer. record { descriptor = d; side = side; timer = timer })
    (of_side side row.timers)

-- the entry at a place
abbrev pub timer_at : List DescriptorRow → List Entry → TimerPlace → Option Entry
timer_at descriptors firings (ArmedAt d side) =
    option_and_then (armed_at d side) (slice_get descriptors d)
timer_at descriptors firings (FiringAt i) = slice_get firings i

-- true if the entry has the current sequence of its descriptor's side
abbrev pub IsCurrent : List DescriptorRow → Entry → Type 0
IsCurrent descriptors e = option_map (λ (row : DescriptorRow). of_side e.side
    row.descriptor.sequences) (slice_get descriptors e.descriptor) ≡ Some e.timer.sequence

-- goroutines: at most one is inside a wait on a descriptor's side, and that descriptor is open;
-- each socket that a status names was opened; each number of owed releases fits in a field, and
-- they aren't both zero
pub record GoroutinesFit (goroutines : List Status) (sockets : List Socket)
    (descriptors : List DescriptorRow) (free : List ℕ) : Type 0 where
  pub one_inside : (g h d : ℕ) (side : Side) → IsInside goroutines g d side
      → IsInside goroutines h d side → g ≡ h
  pub inside_open : (g d : ℕ) (side : Side) → IsInside goroutines g d side
      → IsOpen descriptors free d
  pub sockets_named : (g s : ℕ) → HasView socket_named goroutines g s → s < length sockets
  pub owed : (g reads writes : ℕ) → HasView owed_of goroutines g (reads, writes)
      → IsField reads × IsField writes × (0 < reads + writes)

-- Wait words: they hold exactly the parked goroutines. A word is `wait` only if a goroutine is
-- about to park or to consume the word. `waiters` is the number of goroutines held in wait words.
pub record WaitWordsFit (goroutines : List Status) (descriptors : List DescriptorRow) (waiters : ℕ)
    : Type 0 where
  -- a word holds g if and only if g is parked there
  pub held : (g d : ℕ) (side : Side) → HasWaitWord descriptors d side (Held g)
      ↔ HasView parked_of goroutines g (d, side)
  pub waited : (d : ℕ) (side : Side) → HasWaitWord descriptors d side WaitWord.Wait
      → (g : ℕ) × HasView awaiting_of goroutines g (d, side)
  pub counted : waiters ≡ sum_by held_count descriptors

-- semaphore queues: each contains exactly the goroutines whose status says that they are queued
-- there
pub record QueuesFit (goroutines : List Status) (sockets : List Socket) : Type 0 where
  -- each goroutine with such a status is in the queue once, and no other goroutine is in the queue
  pub queued : (g s : ℕ) (side : Side) (socket : Socket) → slice_get sockets s ≡ Some socket
      → count_by (λ h. h == g) (of_side side socket.semaphores).queue
      ≡ bit (is_queued s side (slice_get goroutines g))

-- timers: armed timers and firings fit their descriptors, at most one timer of a side is current,
-- and arming numbers are unique and below the next one
pub record TimersFit (descriptors : List DescriptorRow) (firings : List Entry) (next_arming : ℕ) :
    Type 0 where
  pub entries_fit : (d : ℕ) (row : DescriptorRow) → slice_get descriptors d ≡ Some row → RowFits row
  pub firings_fit : (i : ℕ) (firing : Entry) → slice_get firings i ≡ Some firing
      → (row : DescriptorRow) × (slice_get descriptors firing.descriptor ≡ Some row)
      × FiringFits row.descriptor firing
  pub one_current : (p q : TimerPlace) (e f : Entry) → timer_at descriptors firings p ≡ Some e
      → timer_at descriptors firings q ≡ Some f → e.descriptor ≡ f.descriptor → e.side ≡ f.side
      → IsCurrent descriptors e → IsCurrent descriptors f → p ≡ q
  pub armed_before : (p : TimerPlace) (e : Entry) → timer_at descriptors firings p ≡ Some e
      → e.timer.number < next_arming
  pub armed_once : (p q : TimerPlace) (e f : Entry) → timer_at descriptors firings p ≡ Some e
      → timer_at descriptors firings q ≡ Some f → e.timer.number ≡ f.timer.number → p ≡ q
  pub numbered : 0 < next_arming
  pub in_range : next_arming < 2 ^ 64

-- free descriptor numbers: each was made, is listed once and belongs to a closing descriptor with
-- no goroutine parked or waiting on its words
pub record FreeFits (descriptors : List DescriptorRow) (free : List ℕ) : Type 0 where
  pub made : All (λ d. d < length descriptors) free
  pub once : (d : ℕ) → count_by (λ f. f == d) free ≤ 1
  pub closing : (d : ℕ) (row : DescriptorRow) → is_free_number d free ≡ true
      → slice_get descriptors d ≡ Some row → row.descriptor.closing ≡ true
  pub words : (d : ℕ) (side : Side) (word : WaitWord) → is_free_number d free ≡ true
      → HasWaitWord descriptors d side word → (word ≡ Nil) ⊎ (word ≡ Ready)

-- the clock began at 0 and advances; the time of each firing has come
pub record ClockFits (clock : ℤ) (firings : List Entry) : Type 0 where
  pub begun : pos 0 ≤ℤ clock
  pub time : IsTime clock
  pub come : (i : ℕ) (firing : Entry) → slice_get firings i ≡ Some firing
      → firing.timer.due ≤ℤ clock

-- the invariant of every state that steps can reach: the parts fit one another, and no table
-- exceeds its limit
pub record WellFormed (w : World) : Type 0 where
  pub goroutines : GoroutinesFit w.goroutines w.sockets w.descriptors w.free
  pub words : WaitWordsFit w.goroutines w.descriptors w.waiters
  pub queues : QueuesFit w.goroutines w.sockets
  pub timers : TimersFit w.descriptors w.firings w.next_arming
  pub free : FreeFits w.descriptors w.free
  pub sockets : (s : ℕ) (socket : Socket) → slice_get w.sockets s ≡ Some socket
      → SocketFits w.limits.buffer socket
  pub goroutines_limited : length w.goroutines ≤ w.limits.goroutines
  pub sockets_limited : length w.sockets ≤ w.limits.sockets
  pub descriptors_limited : length w.descriptors ≤ w.limits.descriptors
  pub firings_limited : length w.firings ≤ 2 * w.limits.descriptors
  pub clock : ClockFits w.clock w.firings
