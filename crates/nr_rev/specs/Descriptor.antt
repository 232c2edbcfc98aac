-- The poll descriptor: its record, its check and summary, and its operations.
use Rattle.std.specs.Prelude.{ℕ, ◌+◌, ◌*◌, ◌-◌, ◌^◌, Bool, true, false, ◌&&◌, not, ◌==◌, ℤ, pos, negsuc, int_lt, ◌+ℤ◌, if◌then◌else◌, List, [], ◌∷◌, ◌++◌, Option, Some, None, Result, Ok}
use Rattle.std.specs.Ordering.{int_eq}
use Rattle.std.specs.Int.{int_min}
use Rattle.nr_rev.specs.declared.sides.Side.{Side}
use Rattle.nr_rev.specs.declared.sides.Side.TheVariants.{Read, Write}
use Rattle.nr_rev.specs.declared.sides.Mode.{Mode}
use Rattle.nr_rev.specs.declared.timer.TimerFunction.{TimerFunction}
use Rattle.nr_rev.specs.declared.descriptor.WaitWord.{WaitWord}
use Rattle.nr_rev.specs.declared.descriptor.WaitWord.TheVariants.{Nil, Ready, Wait, Held}
use Rattle.nr_rev.specs.declared.refusal.Refusal.{Refusal}
use Rattle.nr_rev.specs.declared.sides.Sides.{Sides}
use Rattle.nr_rev.specs.Sides.{of_side, with_side, twice, is_read, names_side, covers_side, side_of_function}
use Rattle.nr_rev.specs.Refusing.{◌>>=◌, ◌>>◌, refused_if, refused_unless, raised_sequence}
use Rattle.nr_rev.specs.Lock.{bit}
use Rattle.nr_rev.specs.declared.timer.TimerOrder.{TimerOrder}
use Rattle.nr_rev.specs.declared.timer.TimerOrder.TheVariants.{Arm, Stop}
use Rattle.nr_rev.specs.declared.descriptor.Descriptor.{Descriptor}

-- a descriptor before its first opening: words nil, no deadline, no timer running, sequences and
-- fdseq at 0
abbrev pub never_opened : Descriptor
never_opened =
    record {
      words = twice Nil;
      closing = false;
      event_error = false;
      deadlines = twice (pos 0);
      running = twice false;
      sequences = twice 0;
      fdseq = 0;
      socket = 0;
    }

-- true if a time is after 0: as a deadline, it is in the future
abbrev pub is_positive : ℤ → Bool
is_positive t = int_lt (pos 0) t

-- true if a time is before 0: as a deadline, it has passed
abbrev pub is_negative : ℤ → Bool
is_negative t = int_lt t (pos 0)

-- true if the side's deadline has passed
abbrev pub is_expired : Side → Descriptor → Bool
is_expired side d = is_negative (of_side side d.deadlines)

-- 1 if the descriptor is closing; otherwise 2 if the side's deadline has expired; otherwise 3 if
-- the side is reading and the last event was an error; otherwise 0
abbrev pub check : Side → Descriptor → ℕ
check side d =
    if d.closing then 1 else (if is_expired side d then 2
    else (if is_read side && d.event_error then 3 else 0))

-- `pollInfo` as a number, the sum of: 1 closing, 2 an event error, 4 the read deadline expired, 8
-- the write deadline expired
abbrev pub summary : Descriptor → ℕ
summary d = bit d.closing + 2 * bit d.event_error + 4 * bit (is_expired Read d)
    + 8 * bit (is_expired Write d)

-- true if two Booleans are equal
abbrev pub same_bool : Bool → Bool → Bool
same_bool true b = b
same_bool false b = not b

-- true if both sides have the same deadline, which is in the future
abbrev pub is_combo : Descriptor → Bool
is_combo d = is_positive d.deadlines.read && int_eq d.deadlines.read d.deadlines.write

-- the descriptor with a new word on one side
abbrev pub with_wait_word : Side → WaitWord → Descriptor → Descriptor
with_wait_word side word d = record d { words = with_side side word d.words }

-- unblock: the new word, and the goroutine to wake
abbrev pub unblock : WaitWord → Bool → WaitWord × List ℕ
unblock Ready ioready = (Ready, [])
unblock Nil ioready = (if ioready then Ready else Nil, [])
unblock Wait ioready = (if ioready then Ready else Nil, [])
unblock (Held g) ioready = (if ioready then Ready else Nil, g ∷ [])

-- the result of an operation: the descriptor, the orders to its timers, and the goroutines to wake
pub record Change : Type 0 where
  pub descriptor : Descriptor
  pub orders : List TimerOrder
  pub woken : List ℕ

-- a change without timer orders that wakes no goroutine
abbrev pub quiet : Descriptor → Change
quiet d = record { descriptor = d; orders = []; woken = [] }

-- one change, followed by another
abbrev pub and_then : Change → (Descriptor → Change) → Change
and_then first next =
    let second : Change = next first.descriptor in
    record {
      descriptor = second.descriptor;
      orders = first.orders ++ second.orders;
      woken = first.woken ++ second.woken;
    }

-- one change, followed by another if the test holds
abbrev pub then_if : Change → Bool → (Descriptor → Change) → Change
then_if first test next = if test then and_then first next else first

-- unblocks a side's word
abbrev pub unblocked : Bool → Side → Descriptor → Change
unblocked ioready side d =
    let new : WaitWord × List ℕ = unblock (of_side side d.words) ioready in
    record { descriptor = with_wait_word side new.0 d; orders = []; woken = new.1 }

-- both sequences incremented, the read side's first; refused for reason 18 if one is at its maximum
abbrev pub both_raised : Sides ℕ → Result (Sides ℕ) Refusal
both_raised sequences = do
  read ← raised_sequence sequences.read
  write ← raised_sequence sequences.write
  Ok (record { read = read; write = write })

-- pollopen: the descriptor, opened for this socket. Words and deadlines are cleared, earlier timers
-- become stale, and an fdseq of 0 becomes 1
abbrev pub opened_for : ℕ → Descriptor → Result Descriptor Refusal
opened_for socket d = do
  sequences ← both_raised d.sequences
  Ok (record d {
    words = twice Nil;
    closing = false;
    event_error = false;
    deadlines = twice (pos 0);
    sequences = sequences;
    fdseq = if d.fdseq == 0 then 1 else d.fdseq;
    socket = socket;
  })

-- pollclose: the descriptor with its fdseq incremented, so that events on the way are stale
abbrev pub closed : Descriptor → Result Descriptor Refusal
closed d = do
  fdseq ← raised_sequence d.fdseq
  Ok (record d { fdseq = fdseq })

-- a future deadline is counted from now; a sum beyond the greatest time becomes that time
abbrev pub deadline_from : ℤ → ℤ → ℤ
deadline_from clock t = if is_positive t then int_min (clock +ℤ t) (pos (2 ^ 63 - 1)) else t

-- the descriptor with the deadline t, in nanoseconds of the clock, on the sides that the mode names
abbrev pub with_deadlines : Mode → ℤ → Descriptor → Descriptor
with_deadlines mode t d =
    record d {
      deadlines =
          record {
            read = if names_side mode Read then t else d.deadlines.read;
            write = if names_side mode Write then t else d.deadlines.write;
          };
    }

-- the function of a side's timer: if both deadlines are the same, the read timer serves both sides
abbrev pub timer_function : Side → Descriptor → TimerFunction
timer_function Read d = if is_combo d then TimerFunction.Both else TimerFunction.Read
timer_function Write d = TimerFunction.Write

-- true if a side's deadline needs its own timer: if both deadlines are the same, no write timer is
-- armed
abbrev pub wants_timer : Side → Descriptor → Bool
wants_timer Read d = is_positive d.deadlines.read
wants_timer Write d = is_positive d.deadlines.write && not (is_combo d)

-- arms the timer at the deadline with the sequence, or stops it
abbrev pub timer_reset : Side → Descriptor → Change
timer_reset side d =
    record {
      descriptor = record d { running = with_side side (wants_timer side d) d.running };
      orders =
          (if wants_timer side d then Arm side (of_side side d.deadlines) (timer_function side d)
          (of_side side d.sequences)
          else Stop side)
          ∷ [];
      woken = [];
    }

-- adjusts a side's timer to the deadlines of d; `old` is the descriptor before they were set
abbrev pub timer_follows : Side → Descriptor → Descriptor → Result Change Refusal
timer_follows side old d =
    if not (of_side side d.running) then Ok (if wants_timer side d then timer_reset side d
    else quiet d)
    else (if int_eq (of_side side old.deadlines) (of_side side d.deadlines)
    && same_bool (is_combo old) (is_combo d)
    then Ok (quiet d)
    else (do
      sequence ← raised_sequence (of_side side d.sequences)
      Ok (timer_reset side (record d { sequences = with_side side sequence d.sequences }))))

-- unblocks each side whose deadline is past, the read side first
abbrev pub expired_unblocked : Change → Change
expired_unblocked change =
    then_if (then_if change (is_expired Read change.descriptor) (unblocked false Read))
    (is_expired Write change.descriptor) (unblocked false Write)

-- setdeadline, for the time t from now: sets the deadlines, adjusts their timers, and unblocks a
-- side whose deadline has passed. A closing descriptor stays as it is
abbrev pub change_by_deadline : ℤ → Mode → ℤ → Descriptor → Result Change Refusal
change_by_deadline clock mode t old =
    if old.closing then Ok (quiet old) else (do
      read ← timer_follows Read old (with_deadlines mode (deadline_from clock t) old)
      write ← timer_follows Write old read.descriptor
      Ok (expired_unblocked (and_then read (λ _. write))))

-- the order to stop a side's timer, if the test holds
abbrev pub stop_if : Bool → Side → List TimerOrder
stop_if true side = Stop side ∷ []
stop_if false side = []

-- evict: marks the descriptor as closing, increments its sequences, stops its timers, and unblocks
-- both sides, the read side first
abbrev pub change_by_evict : Descriptor → Result Change Refusal
change_by_evict d = do
  refused_if d.closing Refusal.AlreadyClosing
  sequences ← both_raised d.sequences
  let stopped : Change = record {
    descriptor = record d { closing = true; sequences = sequences; running = twice false };
    orders = stop_if d.running.read Read ++ stop_if d.running.write Write;
    woken = [];
  }
  Ok (and_then (and_then stopped (unblocked false Read)) (unblocked false Write))

-- the side's deadline passes, and the side is unblocked without becoming ready
abbrev pub expire : Side → Descriptor → Change
expire side d =
    unblocked false side (record d { deadlines = with_side side (negsuc 0) d.deadlines })

-- true if a firing is the one that the descriptor waits for
abbrev pub is_current : TimerFunction → ℕ → Descriptor → Bool
is_current function sequence d = sequence == of_side (side_of_function function) d.sequences

-- True if each side that the function covers has a future deadline, and the function's timer runs.
-- A function that covers both sides uses the read timer.
abbrev pub is_timed : TimerFunction → Descriptor → Bool
is_timed TimerFunction.Read d = is_positive d.deadlines.read && d.running.read
is_timed TimerFunction.Write d = is_positive d.deadlines.write && d.running.write
is_timed TimerFunction.Both d =
    is_positive d.deadlines.read && d.running.read && is_positive d.deadlines.write

-- the change that a current firing makes, or None for a stale firing
abbrev pub change_by_firing : TimerFunction → ℕ → Descriptor → Result (Option Change) Refusal
change_by_firing function sequence d =
    if not (is_current function sequence d) then Ok None else (do
      refused_unless (is_timed function d) Refusal.CorruptedDescriptor
      Ok (Some (then_if (then_if (quiet d) (covers_side function Read) (expire Read))
          (covers_side function Write) (expire Write))))

-- pollevent: stores the reported event error. Each side that the mode names becomes ready, the read
-- side first.
abbrev pub change_by_event : Mode → Bool → Descriptor → Change
change_by_event mode error d =
    then_if (then_if (quiet (record d { event_error = error })) (names_side mode Read)
    (unblocked true Read))
    (names_side mode Write) (unblocked true Write)
