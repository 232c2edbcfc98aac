-- Recordings whose worlds the prover computes, and the values that are compared.
use Rattle.std.specs.Prelude.{ℕ, ◌+◌, pos, List, [], ◌∷◌, false, true, Result, Ok, Err, Option, Some, None}
use Rattle.nr_rev.specs.declared.sides.Side.{Side}
use Rattle.nr_rev.specs.declared.sides.Mode.{Mode}
use Rattle.nr_rev.specs.declared.answer.Answer.{Answer}
use Rattle.nr_rev.specs.declared.refusal.Refusal.{Refusal}
use Rattle.nr_rev.specs.declared.cell.Cell.{Cell}
use Rattle.nr_rev.specs.declared.cell_value.CellValue.{CellValue}
use Rattle.nr_rev.specs.declared.step.Step.{Step}
use Rattle.nr_rev.specs.declared.step.Step.TheVariants.{Spawn, Exit, SockOpen, Arrive, SysRead, SysWrite, Drain, Incref, IncrefClose, Decref, RwLock, RwUnlock, Acquire, Release, PollOpen, PollClose, WaitBegin, BlockArm, BlockCheck, ParkCommit, BlockSwap, SetDeadline, Evict, PollEvent, Tick, Pop, Fire, CloseWrite}
use Rattle.nr_rev.specs.declared.lock.Lock.{Lock}
use Rattle.nr_rev.specs.declared.lock.LockOutcome.{LockOutcome}
use Rattle.nr_rev.specs.Lock.{open_lock, lock_number}
use Rattle.nr_rev.specs.declared.descriptor.Descriptor.{Descriptor}
use Rattle.nr_rev.specs.declared.timer.TimerFunction.{TimerFunction}
use Rattle.nr_rev.specs.declared.timer.TimerOrder.TheVariants.{Arm}
use Rattle.nr_rev.specs.Descriptor.{never_opened}
use Rattle.nr_rev.specs.Refusing.{◌>>=◌}
use Rattle.nr_rev.specs.Sides.{twice}
use Rattle.nr_rev.specs.Socket.{new_socket}
use Rattle.nr_rev.specs.World.{World, empty_world}
use Rattle.nr_rev.specs.Step.{outcome, after_order}
use Rattle.nr_rev.specs.Cell.{cell}
use Rattle.nr_rev.specs.Run.{Recording, world_at}

-- a recording of these steps, with room for four goroutines, two sockets and two descriptors
abbrev pub recording : List Step → Recording
recording steps =
    record {
      limits = record { goroutines = 4; sockets = 2; descriptors = 2; buffer = 16 };
      steps = steps;
    }

-- the number of the first refused step and its reason, if the first step of the list has number k
abbrev pub first_refused : ℕ → World → List Step → Option (ℕ × Refusal)
first_refused k w [] = None
first_refused k w (step ∷ steps) =
    elim (outcome w step) [ Ok a ↦ first_refused (k + 1) a.1 steps | Err reason ↦ Some (k, reason) ]

-- the number of the first refused step of a recording, counted from 1, and the reason
abbrev pub first_refused_of : Recording → Option (ℕ × Refusal)
first_refused_of r = first_refused 1 (empty_world r.limits) r.steps

-- the number of the first refused step and its reason, with room for two goroutines, a socket and a
-- descriptor
abbrev pub reason_of : List Step → Option (ℕ × Refusal)
reason_of steps =
    first_refused 1
    (empty_world (record { goroutines = 2; sockets = 1; descriptors = 1; buffer = 16 })) steps

-- the answers of some steps, up to the first refused one
abbrev pub answers_from : World → List Step → List Answer
answers_from w [] = []
answers_from w (step ∷ steps) =
    elim (outcome w step) [ Ok a ↦ a.0 ∷ answers_from a.1 steps | Err reason ↦ [] ]

-- the answers of a recording, up to the first refused step
abbrev pub answers_of : Recording → List Answer
answers_of r = answers_from (empty_world r.limits) r.steps

-- the value of a cell at a position
abbrev pub cell_after : Recording → ℕ → Cell → CellValue
cell_after r n what = cell (world_at r n) what

-- two goroutines ask for the read lock, and a third closes
abbrev pub two_readers_and_a_close : Recording
two_readers_and_a_close =
    recording (
    Spawn ∷ Spawn ∷ SockOpen 16 16 ∷ Incref 0 0 ∷ RwLock 0 0 Side.Read ∷ RwLock 1 0 Side.Read
    ∷ RwUnlock 0 0 Side.Read ∷ IncrefClose 2 0 ∷ Decref 2 0 ∷ Exit 2 ∷ []
    )

-- a step drops a reference that no goroutine has
abbrev pub one_reference_given_up_twice : Recording
one_reference_given_up_twice = recording (SockOpen 1 1 ∷ Incref 0 0 ∷ Decref 0 0 ∷ Decref 0 0 ∷ [])

-- a release wakes a queued goroutine, and another goroutine takes the lock before the woken one
-- tries again
abbrev pub a_release_without_hand_off : Recording
a_release_without_hand_off =
    recording (
    Spawn ∷ SockOpen 16 16 ∷ RwLock 0 0 Side.Read ∷ RwLock 1 0 Side.Read ∷ Acquire 1
    ∷ RwUnlock 0 0 Side.Read
    ∷ Release 0 ∷ RwLock 0 0 Side.Read ∷ Acquire 1 ∷ RwLock 1 0 Side.Read ∷ []
    )

-- a read that parks until bytes arrive
abbrev pub a_read_through_the_poller : Recording
a_read_through_the_poller =
    recording (
    SockOpen 16 16 ∷ PollOpen 0 0 ∷ RwLock 0 0 Side.Read ∷ WaitBegin 0 0 Side.Read ∷ BlockArm 0
    ∷ BlockCheck 0
    ∷ ParkCommit 0 ∷ Arrive 0 (104 ∷ 105 ∷ []) ∷ PollEvent 0 1 Mode.Read false ∷ BlockSwap 0
    ∷ SysRead 0 0 8
    ∷ RwUnlock 0 0 Side.Read ∷ []
    )

-- the event comes after the check and before the goroutine parks
abbrev pub an_event_before_the_parking : Recording
an_event_before_the_parking =
    recording (
    SockOpen 16 16 ∷ PollOpen 0 0 ∷ RwLock 0 0 Side.Read ∷ WaitBegin 0 0 Side.Read ∷ BlockArm 0
    ∷ BlockCheck 0
    ∷ PollEvent 0 1 Mode.Read false ∷ ParkCommit 0 ∷ BlockSwap 0 ∷ []
    )

-- an error event for the write side, a goroutine that then tries to wait for reading, and a stale
-- event
abbrev pub an_error_while_reading_waits : Recording
an_error_while_reading_waits =
    recording (
    SockOpen 1 1 ∷ PollOpen 0 0 ∷ PollEvent 0 1 Mode.Write true ∷ WaitBegin 0 0 Side.Read
    ∷ PollEvent 0 2 Mode.Read false ∷ []
    )

-- bytes are written, and sent
abbrev pub a_drained_output : Recording
a_drained_output = recording (SockOpen 1 2 ∷ SysWrite 0 0 (104 ∷ 105 ∷ []) ∷ Drain 0 2 ∷ [])

-- one timer for both deadlines fires, after the read deadline was set anew
abbrev pub a_stale_firing_of_both_deadlines : Recording
a_stale_firing_of_both_deadlines =
    recording (
    SockOpen 16 16 ∷ PollOpen 0 0 ∷ SetDeadline 0 0 Mode.Both (pos 100) ∷ Tick (pos 100) ∷ Pop
    ∷ SetDeadline 0 0 Mode.Read (pos 50) ∷ Fire 0 ∷ Pop ∷ Fire 0 ∷ []
    )

-- the sum of the clock and the deadline is more than the greatest time
abbrev pub a_deadline_past_the_greatest_time : Recording
a_deadline_past_the_greatest_time =
    recording (SockOpen 1 1 ∷ PollOpen 0 0 ∷ Tick (pos 5)
    ∷ SetDeadline 0 0 Mode.Read (pos 9223372036854775807) ∷ [])

-- after a descriptor is closed and opened again, a stale event arrives with the descriptor's
-- earlier tag
abbrev pub a_descriptor_opened_again : Recording
a_descriptor_opened_again =
    recording (
    SockOpen 16 16 ∷ PollOpen 0 0 ∷ Evict 0 0 ∷ PollClose 0 0 ∷ PollOpen 0 0
    ∷ PollEvent 0 1 Mode.Read false ∷ []
    )

-- a third timer is due while two firings wait to be run
abbrev pub a_firing_too_many : Recording
a_firing_too_many =
    record {
      limits = record { goroutines = 1; sockets = 1; descriptors = 1; buffer = 1 };
      steps =
          SockOpen 1 1 ∷ PollOpen 0 0 ∷ SetDeadline 0 0 Mode.Read (pos 1) ∷ Tick (pos 1) ∷ Pop
          ∷ SetDeadline 0 0 Mode.Read (pos 1) ∷ Tick (pos 2) ∷ Pop
          ∷ SetDeadline 0 0 Mode.Read (pos 1) ∷ Tick (pos 3) ∷ Pop
          ∷ [];
    }

-- a write side is shut between two writes, and the written bytes are sent
abbrev pub a_shut_write_side : Recording
a_shut_write_side =
    record {
      limits = record { goroutines = 1; sockets = 1; descriptors = 1; buffer = 1048576 };
      steps =
          SockOpen 1048576 4 ∷ SysWrite 0 0 (104 ∷ 105 ∷ []) ∷ CloseWrite 0 0
          ∷ SysWrite 0 0 (104 ∷ 105 ∷ []) ∷ Drain 0 2 ∷ CloseWrite 0 0
          ∷ [];
    }

-- a reader has the lock, and two more readers and a writer wait for it
abbrev pub a_lock_with_three_waiters : Lock
a_lock_with_three_waiters =
    record {
      closed = false;
      locked = record { read = true; write = false };
      references = 1;
      waiters = record { read = 2; write = 1 };
    }

-- a reader has the lock, and one more reader waits
abbrev pub a_lock_with_one_waiter : Lock
a_lock_with_one_waiter =
    record {
      closed = false;
      locked = record { read = true; write = false };
      references = 1;
      waiters = record { read = 1; write = 0 };
    }

-- as many references as the word can count
abbrev pub a_lock_full_of_references : Lock
a_lock_full_of_references = record open_lock { references = 1048575 }

-- an operation's answer, the releases owed for reading and for writing, and the number of the lock
-- after it
abbrev pub lock_left_by : Result LockOutcome Refusal → Result (Answer × ℕ × ℕ × ℕ) Refusal
lock_left_by (Ok left) = Ok (left.answer, left.owed.read, left.owed.write, lock_number left.lock)
lock_left_by (Err reason) = Err reason

-- a world with one goroutine and one socket, with this lock
abbrev pub world_with_lock : Lock → World
world_with_lock lock =
    record (world_at (recording []) 0) {
      sockets = record (new_socket 16 16) { lock = lock } ∷ [];
    }

-- a descriptor whose write sequence is the greatest 64-bit number
abbrev pub a_last_sequence : Descriptor
a_last_sequence =
    record never_opened { sequences = record { read = 3; write = 18446744073709551615 } }

-- that descriptor, while a write timer runs
abbrev pub a_last_sequence_timed : Descriptor
a_last_sequence_timed =
    record a_last_sequence {
      deadlines = record { read = pos 0; write = pos 50 };
      running = record { read = false; write = true };
    }

-- a descriptor whose tag is the greatest 64-bit number
abbrev pub a_last_tag : Descriptor
a_last_tag = record never_opened { closing = true; fdseq = 18446744073709551615 }

-- the next arming number, after a write timer is armed in an empty place
abbrev pub armed_after : ℕ → Result ℕ Refusal
armed_after number = do
  after ← after_order (Arm Side.Write (pos 50) TimerFunction.Write 0) (twice None, number)
  Ok after.1

-- a world with one open descriptor, whose next timer has this arming number
abbrev pub world_with_arming : ℕ → World
world_with_arming number =
    record (world_at (recording (SockOpen 1 1 ∷ PollOpen 0 0 ∷ [])) 2) { next_arming = number }
