-- The thirty-one steps. Each step checks its reasons for refusal in order. If none holds, the step
-- has an answer and a next world.
use Rattle.std.specs.Prelude.{ℕ, ◌+◌, ◌-◌, ◌*◌, Bool, true, false, ◌&&◌, ◌||◌, not, ◌==◌, nat_lt, nat_le, min, ℤ, int_lt, int_le, if◌then◌else◌, List, [], ◌∷◌, ◌++◌, length, take, drop, remove, slice_get, slice_set, slice_index_or, Option, Some, None, Result, Ok, Err}
use Rattle.nr_rev.specs.declared.sides.Side.{Side}
use Rattle.nr_rev.specs.declared.sides.Side.TheVariants.{Read, Write}
use Rattle.nr_rev.specs.declared.sides.Mode.{Mode}
use Rattle.nr_rev.specs.declared.descriptor.WaitWord.{WaitWord}
use Rattle.nr_rev.specs.declared.status.Status.{Status}
use Rattle.nr_rev.specs.declared.status.Status.TheVariants.{Idle, Acquiring, Queued, Relock, Owing, Entering, Armed, Parking, Parked, Swapping, Checking, Gone}
use Rattle.nr_rev.specs.declared.answer.Answer.{Answer}
use Rattle.nr_rev.specs.declared.answer.Answer.TheVariants.{Number, Code, Got, Put, Done, Yes, No, Wait, Eof, Again, Stale, Pipe}
use Rattle.nr_rev.specs.declared.refusal.Refusal.{Refusal}
use Rattle.nr_rev.specs.declared.refusal.Refusal.TheVariants.{NoSuchGoroutine, NotThere, TableFull, NoSuchSocket, NoSuchDescriptor, DoubleWait, CloseWithoutUnblock, WaiterInside, ClockGoesBack, NoTimerDue, FiringsFull, NoSuchFiring, NoRoom, TooFewBytes, SizeOutOfRange, PeerClosed}
use Rattle.nr_rev.specs.declared.step.Step.{Step}
use Rattle.nr_rev.specs.declared.sides.Sides.{Sides}
use Rattle.nr_rev.specs.Sides.{of_side, with_side, twice, same_side}
use Rattle.nr_rev.specs.Refusing.{◌>>=◌, ◌>>◌, refused_if, refused_unless, found_or, raised_sequence}
use Rattle.nr_rev.specs.Lock
use Rattle.nr_rev.specs.declared.lock.LockOutcome.{LockOutcome}
use Rattle.nr_rev.specs.Semaphore.{Semaphore, is_free, acquired, front_of, released}
use Rattle.nr_rev.specs.declared.timer.Timer.{Timer}
use Rattle.nr_rev.specs.declared.timer.TimerOrder.{TimerOrder}
use Rattle.nr_rev.specs.declared.timer.TimerOrder.TheVariants.{Arm, Stop}
use Rattle.nr_rev.specs.Descriptor.{never_opened, check, opened_for, closed, with_wait_word, Change, change_by_deadline, change_by_evict, change_by_event, change_by_firing}
use Rattle.nr_rev.specs.Socket.{Socket, new_socket, room_of, output_room}
use Rattle.nr_rev.specs.declared.descriptor.DescriptorRow.{DescriptorRow}
use Rattle.nr_rev.specs.World.{World, is_free_number, least_entry, is_waited, with_status, with_socket, with_row, with_descriptor}

-- ---- the outcome of a step, and the time in a step

-- the answer and the next world, or the reason why the step doesn't apply
abbrev pub Outcome : Type 0
Outcome = Result (Answer × World) Refusal

-- ---- lookups in a step, and the reasons if they fail

-- the status of a goroutine that exists and hasn't ended; refused for reason 1 otherwise
abbrev pub alive : Option Status → Result Status Refusal
alive None = Err NoSuchGoroutine
alive (Some Gone) = Err NoSuchGoroutine
alive (Some status) = Ok status

-- the status of goroutine g; refused for reason 1 if g doesn't exist or has ended
abbrev pub status_of : ℕ → World → Result Status Refusal
status_of g w = alive (slice_get w.goroutines g)

-- true if a goroutine is idle
abbrev pub is_idle : Status → Bool
is_idle Idle = true
is_idle _ = false

-- refuses a goroutine that doesn't exist (reason 1) or isn't idle (reason 2)
abbrev pub idle : ℕ → World → Result (Unit {0}) Refusal
idle g w = do
  status ← status_of g w
  refused_unless (is_idle status) NotThere

-- socket s; refused for reason 4 if it was not opened
abbrev pub socket_of : ℕ → World → Result Socket Refusal
socket_of s w = found_or (slice_get w.sockets s) NoSuchSocket

-- the row of descriptor d; refused for reason 5 if d was never opened
abbrev pub row_of : ℕ → World → Result DescriptorRow Refusal
row_of d w = found_or (slice_get w.descriptors d) NoSuchDescriptor

-- the row of descriptor d; refused for reason 5 if d isn't open
abbrev pub open_row_of : ℕ → World → Result DescriptorRow Refusal
open_row_of d w = do
  refused_if (is_free_number d w.free) NoSuchDescriptor
  row_of d w

-- refuses, for reason 19, a size that isn't from 1 to the recording's buffer limit
abbrev pub sized : ℕ → World → Result (Unit {0}) Refusal
sized n w = refused_unless (nat_lt 0 n && nat_le n w.limits.buffer) SizeOutOfRange

-- ---- goroutines

-- spawn: a go statement
abbrev pub spawn : World → Outcome
spawn w = do
  refused_unless (nat_lt (length w.goroutines) w.limits.goroutines) TableFull
  Ok (Number (length w.goroutines), record w { goroutines = w.goroutines ++ Idle ∷ [] })

-- exit: the goroutine ends
abbrev pub exit : ℕ → World → Outcome
exit g w = do
  idle g w
  Ok (Done, with_status g Gone w)

-- ---- locking

-- the status of a goroutine that owes these releases: idle if it owes none
abbrev pub owing : ℕ → Sides ℕ → Status
owing s owed = if owed.read + owed.write == 0 then Idle else Owing s owed.read owed.write

-- the result of an operation on socket s's lock: its answer, and the world with the new lock and
-- goroutine g's new status
abbrev pub lock_left : ℕ → Status → ℕ → Socket → LockOutcome → World → Answer × World
lock_left g status s socket left w =
    (left.answer, with_status g status (with_socket s (record socket { lock = left.lock }) w))

-- incref: fdMutex.incref
abbrev pub incref : ℕ → ℕ → World → Outcome
incref g s w = do
  idle g w
  socket ← socket_of s w
  left ← Lock.incref socket.lock
  Ok (lock_left g Idle s socket left w)

-- increfclose: fdMutex.increfAndClose
abbrev pub increfclose : ℕ → ℕ → World → Outcome
increfclose g s w = do
  idle g w
  socket ← socket_of s w
  left ← Lock.incref_close socket.lock
  Ok (lock_left g (owing s left.owed) s socket left w)

-- decref: fdMutex.decref
abbrev pub decref : ℕ → ℕ → World → Outcome
decref g s w = do
  idle g w
  socket ← socket_of s w
  left ← Lock.decref socket.lock
  Ok (lock_left g Idle s socket left w)

-- true if a goroutine may try the lock of a side of s: it is idle, or has acquired the semaphore
-- that it waited for
abbrev pub may_lock : ℕ → Side → Status → Bool
may_lock s side Idle = true
may_lock s side (Relock s' side') = (s == s') && same_side side side'
may_lock s side _ = false

-- the status after trying the lock: acquiring the semaphore if the answer is Wait, or else idle
abbrev pub locker : ℕ → Side → Answer → Status
locker s side Answer.Wait = Acquiring s side
locker s side _ = Idle

-- rwlock: fdMutex.rwlock, from its top
abbrev pub rwlock : ℕ → ℕ → Side → World → Outcome
rwlock g s side w = do
  status ← status_of g w
  refused_unless (may_lock s side status) NotThere
  socket ← socket_of s w
  left ← Lock.rw_lock side socket.lock
  Ok (lock_left g (locker s side left.answer) s socket left w)

-- rwunlock: fdMutex.rwunlock
abbrev pub rwunlock : ℕ → ℕ → Side → World → Outcome
rwunlock g s side w = do
  idle g w
  socket ← socket_of s w
  left ← Lock.rw_unlock side socket.lock
  Ok (lock_left g (owing s left.owed) s socket left w)

-- ---- semaphores

-- the world with a new semaphore at a side of socket s
abbrev pub with_semaphore : ℕ → Side → Socket → Semaphore → World → World
with_semaphore s side socket semaphore w =
    with_socket s (record socket { semaphores = with_side side semaphore socket.semaphores }) w

-- the semaphore that a goroutine is acquiring; refused for reason 2 (wrong state) if there is none
abbrev pub acquiring_of : Status → Result (ℕ × Side) Refusal
acquiring_of (Acquiring s side) = Ok (s, side)
acquiring_of _ = Err NotThere

-- acquire: the goroutine gets the semaphore, or is queued
abbrev pub acquire : ℕ → World → Outcome
acquire g w = do
  status ← status_of g w
  (s, side) ← acquiring_of status
  socket ← socket_of s w
  let semaphore : Semaphore = of_side side socket.semaphores
  let next : World = with_semaphore s side socket (acquired g semaphore) w
  Ok (if is_free semaphore then (Yes, with_status g (Relock s side) next)
      else (Wait, with_status g (Queued s side) next))

-- the releases that a goroutine owes; refused for reason 2 (wrong state) if there are none
abbrev pub owing_of : Status → Result (ℕ × Sides ℕ) Refusal
owing_of (Owing s reads writes) = Ok (s, record { read = reads; write = writes })
owing_of _ = Err NotThere

-- a goroutine that leaves the front of a queue will try again
abbrev pub tries_again : ℕ → Side → Option ℕ → World → World
tries_again s side None w = w
tries_again s side (Some g) w = with_status g (Acquiring s side) w

-- release: releases one semaphore, the read semaphore first
abbrev pub release : ℕ → World → Outcome
release g w = do
  status ← status_of g w
  (s, owed) ← owing_of status
  socket ← socket_of s w
  let side : Side = if nat_lt 0 owed.read then Read else Write
  let semaphore : Semaphore = of_side side socket.semaphores
  left ← released semaphore
  let next : World = tries_again s side (front_of semaphore) (with_semaphore s side socket left w)
  Ok (Done, with_status g (owing s (with_side side (of_side side owed - 1) owed)) next)

-- ---- transfers

-- sockopen: opens a socket with these capacities for reading and writing
abbrev pub sockopen : ℕ → ℕ → World → Outcome
sockopen rc wc w = do
  refused_unless (nat_lt (length w.sockets) w.limits.sockets) TableFull
  sized rc w
  sized wc w
  Ok (Number (length w.sockets), record w { sockets = w.sockets ++ new_socket rc wc ∷ [] })

-- the socket with these bytes in a side's buffer
abbrev pub with_buffer : Side → List ℕ → Socket → Socket
with_buffer side bytes socket =
    record socket {
      buffers = with_side side (record (of_side side socket.buffers) { bytes = bytes })
          socket.buffers;
    }

-- arrive: bytes arrive
abbrev pub arrive : ℕ → List ℕ → World → Outcome
arrive s bytes w = do
  socket ← socket_of s w
  refused_if (length bytes == 0) SizeOutOfRange
  refused_if socket.peer_closed PeerClosed
  refused_unless (nat_le (length bytes) (room_of socket.buffers.read)) NoRoom
  Ok (Done, with_socket s (with_buffer Read (socket.buffers.read.bytes ++ bytes) socket) w)

-- peerclose: the peer closes
abbrev pub peerclose : ℕ → World → Outcome
peerclose s w = do
  socket ← socket_of s w
  refused_if socket.peer_closed PeerClosed
  Ok (Done, with_socket s (record socket { peer_closed = true }) w)

-- the answer of a read of k bytes: k if there are any, or else end of file if the peer has closed,
-- or else try again
abbrev pub read_answer : ℕ → Bool → Answer
read_answer k peer_closed = if nat_lt 0 k then Got k else (if peer_closed then Eof else Again)

-- sysread: the system call of a read
abbrev pub sysread : ℕ → ℕ → ℕ → World → Outcome
sysread g s n w = do
  idle g w
  socket ← socket_of s w
  sized n w
  let input : List ℕ = socket.buffers.read.bytes
  Ok (
    read_answer (min n (length input)) socket.peer_closed,
    with_socket s (with_buffer Read (drop n input) socket) w,
  )

-- The answer of a write whose buffer has room for k of its bytes. If the write side is shut, the
-- answer is a broken pipe. Otherwise it is k, or "try again" if k is 0.
abbrev pub write_answer : ℕ → Bool → Answer
write_answer k shut = if shut then Pipe else (if nat_lt 0 k then Put k else Again)

-- syswrite: the system call of a write
abbrev pub syswrite : ℕ → ℕ → List ℕ → World → Outcome
syswrite g s bytes w = do
  idle g w
  socket ← socket_of s w
  refused_if (length bytes == 0) SizeOutOfRange
  let k : ℕ = min (output_room socket.shut socket.buffers.write) (length bytes)
  Ok (
    write_answer k socket.shut,
    with_socket s (with_buffer Write (socket.buffers.write.bytes ++ take k bytes) socket) w,
  )

-- drain: bytes are sent
abbrev pub drain : ℕ → ℕ → World → Outcome
drain s n w = do
  socket ← socket_of s w
  refused_if (n == 0) SizeOutOfRange
  refused_if (nat_lt (length socket.buffers.write.bytes) n) TooFewBytes
  Ok (Done, with_socket s (with_buffer Write (drop n socket.buffers.write.bytes) socket) w)

-- closewrite: shuts the write side
abbrev pub closewrite : ℕ → ℕ → World → Outcome
closewrite g s w = do
  idle g w
  socket ← socket_of s w
  Ok (Done, with_socket s (record socket { shut = true }) w)

-- ---- descriptors

-- the row of a new descriptor: never opened, no timer armed
abbrev pub new_row : DescriptorRow
new_row = record { descriptor = never_opened; timers = twice None }

-- the front of the free list, or else the next new number
abbrev pub taken : List ℕ → World → Result (ℕ × World) Refusal
taken (d ∷ free) w = Ok (d, record w { free = free })
taken [] w = do
  refused_unless (nat_lt (length w.descriptors) w.limits.descriptors) TableFull
  Ok (length w.descriptors, record w { descriptors = w.descriptors ++ new_row ∷ [] })

-- pollopen: runtime_pollOpen
abbrev pub pollopen : ℕ → ℕ → World → Outcome
pollopen g s w = do
  idle g w
  _ ← socket_of s w
  (d, next) ← taken w.free w
  row ← row_of d next
  descriptor ← opened_for s row.descriptor
  Ok (Number d, with_descriptor d row descriptor next)

-- pollclose: runtime_pollClose
abbrev pub pollclose : ℕ → ℕ → World → Outcome
pollclose g d w = do
  idle g w
  row ← open_row_of d w
  refused_unless row.descriptor.closing CloseWithoutUnblock
  refused_if (is_waited d Read w.goroutines || is_waited d Write w.goroutines) WaiterInside
  descriptor ← closed row.descriptor
  Ok (Done, record (with_descriptor d row descriptor w) { free = d ∷ w.free })

-- the timers after an order, and the next arming number
abbrev pub after_order : TimerOrder → Sides (Option Timer) × ℕ
    → Result (Sides (Option Timer) × ℕ) Refusal
after_order (Arm side due function sequence) (timers, number) = do
  next ← raised_sequence number
  let timer : Timer =
      record { due = due; number = number; function = function; sequence = sequence }
  Ok (with_side side (Some timer) timers, next)
after_order (Stop side) (timers, number) = Ok (with_side side None timers, number)

-- the timers and the next arming number after several orders
abbrev pub after_orders : List TimerOrder → Sides (Option Timer) × ℕ
    → Result (Sides (Option Timer) × ℕ) Refusal
after_orders [] before = Ok before
after_orders (order ∷ orders) before = do
  after ← after_order order before
  after_orders orders after

-- the status of a woken goroutine: a parked one will next consume the word
abbrev pub after_wake : Status → Status
after_wake (Parked d side) = Swapping d side
after_wake status = status

-- wakes these goroutines, each of which was parked in a wait word
abbrev pub after_wakes : List ℕ → World → World
after_wakes [] w = w
after_wakes (g ∷ gs) w =
    after_wakes gs (record w {
      goroutines = slice_set w.goroutines g (after_wake (slice_index_or w.goroutines g Idle));
      waiters = w.waiters - 1;
    })

-- the world after this change to descriptor d
abbrev pub after_change : ℕ → DescriptorRow → Change → World → Result World Refusal
after_change d row change w = do
  (timers, number) ← after_orders change.orders (row.timers, w.next_arming)
  let next : World = with_row d (record { descriptor = change.descriptor; timers = timers }) w
  Ok (after_wakes change.woken (record next { next_arming = number }))

-- evict: runtime_pollUnblock
abbrev pub evict : ℕ → ℕ → World → Outcome
evict g d w = do
  idle g w
  row ← open_row_of d w
  change ← change_by_evict row.descriptor
  next ← after_change d row change w
  Ok (Done, next)

-- pollevent: netpollready
abbrev pub pollevent : ℕ → ℕ → Mode → Bool → World → Outcome
pollevent d tag mode error w = do
  row ← row_of d w
  if is_free_number d w.free || not (tag == row.descriptor.fdseq) then Ok (Stale, w) else (do
    next ← after_change d row (change_by_event mode error row.descriptor) w
    Ok (Done, next))

-- ---- waits

-- pollreset: runtime_pollReset
abbrev pub pollreset : ℕ → ℕ → Side → World → Outcome
pollreset g d side w = do
  idle g w
  row ← open_row_of d w
  let code : ℕ = check side row.descriptor
  refused_if (code == 0 && is_waited d side w.goroutines) WaiterInside
  Ok (
    Code code,
    if code == 0 then with_descriptor d row
        (with_wait_word side WaitWord.Nil row.descriptor) w else w,
  )

-- waitbegin: runtime_pollWait, from its top
abbrev pub waitbegin : ℕ → ℕ → Side → World → Outcome
waitbegin g d side w = do
  idle g w
  row ← open_row_of d w
  let code : ℕ = check side row.descriptor
  refused_if (code == 0 && is_waited d side w.goroutines) DoubleWait
  Ok (Code code, if code == 0 then with_status g (Entering d side) w else w)

-- the wait of a goroutine that is about to set the wait word; refused for reason 2 (wrong state)
-- otherwise
abbrev pub entering_of : Status → Result (ℕ × Side) Refusal
entering_of (Entering d side) = Ok (d, side)
entering_of _ = Err NotThere

-- the wait of a goroutine that is about to check once more; refused for reason 2 (wrong state)
-- otherwise
abbrev pub armed_of : Status → Result (ℕ × Side) Refusal
armed_of (Armed d side) = Ok (d, side)
armed_of _ = Err NotThere

-- the wait of a goroutine that is about to commit and park; refused for reason 2 (wrong state)
-- otherwise
abbrev pub parking_of : Status → Result (ℕ × Side) Refusal
parking_of (Parking d side) = Ok (d, side)
parking_of _ = Err NotThere

-- the wait of a goroutine that is about to consume the word; refused for reason 2 (wrong state)
-- otherwise
abbrev pub swapping_of : Status → Result (ℕ × Side) Refusal
swapping_of (Swapping d side) = Ok (d, side)
swapping_of _ = Err NotThere

-- the wait of a goroutine that is about to check why it was woken; refused for reason 2 (wrong
-- state) otherwise
abbrev pub checking_of : Status → Result (ℕ × Side) Refusal
checking_of (Checking d side) = Ok (d, side)
checking_of _ = Err NotThere

-- the world with a new status of goroutine g and a new wait word for the side
abbrev pub with_wait : ℕ → Status → ℕ → Side → WaitWord → DescriptorRow → World → World
with_wait g status d side word row w =
    with_status g status (with_descriptor d row (with_wait_word side word row.descriptor) w)

-- The result of blockarm, given the word that it finds. If the word is nil, it becomes wait. If it
-- is ready, it is consumed, and the wait ends with code 0.
abbrev pub armed_by : ℕ → ℕ → Side → WaitWord → DescriptorRow → World → Outcome
armed_by g d side WaitWord.Nil row w =
    Ok (Wait, with_wait g (Armed d side) d side WaitWord.Wait row w)
armed_by g d side WaitWord.Ready row w = Ok (Code 0, with_wait g Idle d side WaitWord.Nil row w)
-- in a well-formed world, blockarm finds no other word
armed_by g d side _ row w = Err DoubleWait

-- blockarm: the first loop of netpollblock, in which a nil word becomes `wait` or a ready word is
-- consumed
abbrev pub blockarm : ℕ → World → Outcome
blockarm g w = do
  status ← status_of g w
  (d, side) ← entering_of status
  row ← row_of d w
  armed_by g d side (of_side side row.descriptor.words) row w

-- blockcheck: the check in netpollblock before parking
abbrev pub blockcheck : ℕ → World → Outcome
blockcheck g w = do
  status ← status_of g w
  (d, side) ← armed_of status
  row ← row_of d w
  let code : ℕ = check side row.descriptor
  Ok (Code code, with_status g (if code == 0 then Parking d side else Swapping d side) w)

-- The result of parkcommit, given the wait word that it finds. If the word is `wait`, parkcommit
-- stores g in it, and g parks. If it is any other word, g goes on to consume it.
abbrev pub committed_by : ℕ → ℕ → Side → WaitWord → DescriptorRow → World → Answer × World
committed_by g d side WaitWord.Wait row w = (
  Yes,
  record (with_wait g (Parked d side) d side (WaitWord.Held g) row w)
      { waiters = w.waiters + 1 },
)
committed_by g d side _ row w = (No, with_status g (Swapping d side) w)

-- parkcommit: netpollblockcommit
abbrev pub parkcommit : ℕ → World → Outcome
parkcommit g w = do
  status ← status_of g w
  (d, side) ← parking_of status
  row ← row_of d w
  Ok (committed_by g d side (of_side side row.descriptor.words) row w)

-- The result of blockswap, given the word that it consumes. If the word is ready, the wait ends. If
-- it is any other word, g checks why it was woken.
abbrev pub swapped_by : ℕ → ℕ → Side → WaitWord → DescriptorRow → World → Answer × World
swapped_by g d side WaitWord.Ready row w = (Yes, with_wait g Idle d side WaitWord.Nil row w)
swapped_by g d side _ row w = (No, with_wait g (Checking d side) d side WaitWord.Nil row w)

-- blockswap: the part of netpollblock that consumes the word
abbrev pub blockswap : ℕ → World → Outcome
blockswap g w = do
  status ← status_of g w
  (d, side) ← swapping_of status
  row ← row_of d w
  Ok (swapped_by g d side (of_side side row.descriptor.words) row w)

-- waitcheck: the check in runtime_pollWait after netpollblock
abbrev pub waitcheck : ℕ → World → Outcome
waitcheck g w = do
  status ← status_of g w
  (d, side) ← checking_of status
  row ← row_of d w
  let code : ℕ = check side row.descriptor
  Ok (Code code, with_status g (if code == 0 then Entering d side else Idle) w)

-- ---- deadlines

-- setdeadline: runtime_pollSetDeadline
abbrev pub setdeadline : ℕ → ℕ → Mode → ℤ → World → Outcome
setdeadline g d mode t w = do
  idle g w
  row ← open_row_of d w
  change ← change_by_deadline w.clock mode t row.descriptor
  next ← after_change d row change w
  Ok (Done, next)

-- ---- timers

-- tick: the clock advances
abbrev pub tick : ℤ → World → Outcome
tick t w = do
  refused_if (int_lt t w.clock) ClockGoesBack
  Ok (Done, record w { clock = t })

-- pop: the first due timer goes off
abbrev pub pop : World → Outcome
pop w = do
  entry ← found_or (least_entry w) NoTimerDue
  refused_unless (int_le entry.timer.due w.clock) NoTimerDue
  refused_unless (nat_lt (length w.firings) (2 * w.limits.descriptors)) FiringsFull
  row ← row_of entry.descriptor w
  let next : World =
      with_row entry.descriptor (record row { timers = with_side entry.side None row.timers }) w
  Ok (Done, record next { firings = w.firings ++ entry ∷ [] })

-- Runs a firing that was taken off the list. A stale firing does nothing. A current firing applies
-- its change to descriptor d.
abbrev pub fired_with : ℕ → DescriptorRow → Option Change → World → Outcome
fired_with d row None w = Ok (Stale, w)
fired_with d row (Some change) w = do
  next ← after_change d row change w
  Ok (Done, next)

-- fire: runs a firing
abbrev pub fire : ℕ → World → Outcome
fire i w = do
  entry ← found_or (slice_get w.firings i) NoSuchFiring
  row ← row_of entry.descriptor w
  change ← change_by_firing entry.timer.function entry.timer.sequence row.descriptor
  fired_with entry.descriptor row change (record w { firings = remove w.firings i })

-- ---- all kinds

-- the answer of a step and the world after it, or the first reason that holds
abbrev pub outcome : World → Step → Outcome
outcome w Step.Spawn = spawn w
outcome w (Step.Exit g) = exit g w
outcome w (Step.SockOpen rc wc) = sockopen rc wc w
outcome w (Step.Arrive s bytes) = arrive s bytes w
outcome w (Step.PeerClose s) = peerclose s w
outcome w (Step.SysRead g s n) = sysread g s n w
outcome w (Step.SysWrite g s bytes) = syswrite g s bytes w
outcome w (Step.Drain s n) = drain s n w
outcome w (Step.Incref g s) = incref g s w
outcome w (Step.IncrefClose g s) = increfclose g s w
outcome w (Step.Decref g s) = decref g s w
outcome w (Step.RwLock g s side) = rwlock g s side w
outcome w (Step.RwUnlock g s side) = rwunlock g s side w
outcome w (Step.Acquire g) = acquire g w
outcome w (Step.Release g) = release g w
outcome w (Step.PollOpen g s) = pollopen g s w
outcome w (Step.PollClose g d) = pollclose g d w
outcome w (Step.PollReset g d side) = pollreset g d side w
outcome w (Step.WaitBegin g d side) = waitbegin g d side w
outcome w (Step.BlockArm g) = blockarm g w
outcome w (Step.BlockCheck g) = blockcheck g w
outcome w (Step.ParkCommit g) = parkcommit g w
outcome w (Step.BlockSwap g) = blockswap g w
outcome w (Step.WaitCheck g) = waitcheck g w
outcome w (Step.SetDeadline g d mode t) = setdeadline g d mode t w
outcome w (Step.Evict g d) = evict g d w
outcome w (Step.PollEvent d tag mode error) = pollevent d tag mode error w
outcome w (Step.Tick t) = tick t w
outcome w Step.Pop = pop w
outcome w (Step.Fire i) = fire i w
outcome w (Step.CloseWrite g s) = closewrite g s w
