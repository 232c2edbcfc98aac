-- The lock word of a socket, as a record; its number; and its operations.
use Rattle.std.specs.Prelude.{ℕ, ◌+◌, ◌-◌, ◌*◌, ◌^◌, Bool, true, false, ◌&&◌, ◌||◌, not, nat_lt, ◌==◌, min, if◌then◌else◌, Result, Ok}
use Rattle.nr_rev.specs.declared.sides.Side.{Side}
use Rattle.nr_rev.specs.declared.answer.Answer.{Answer}
use Rattle.nr_rev.specs.declared.refusal.Refusal.{Refusal}
use Rattle.nr_rev.specs.Sides.{of_side, with_side, twice}
use Rattle.nr_rev.specs.Refusing.{◌>>=◌, ◌>>◌, refused_if, refused_unless}
use Rattle.nr_rev.specs.declared.lock.Lock.{Lock}
use Rattle.nr_rev.specs.declared.lock.LockOutcome.{LockOutcome}

-- the lock of a new socket: open, free, without references or waiters
abbrev pub open_lock : Lock
open_lock = record { closed = false; locked = twice false; references = 0; waiters = twice 0 }

-- a Boolean as a number: 1 if true, 0 if false
abbrev pub bit : Bool → ℕ
bit true = 1
bit false = 0

-- the lock word: bit 0 closed, bit 1 read lock, bit 2 write lock, then three fields of 20 bits:
-- references, read waiters, write waiters
abbrev pub lock_number : Lock → ℕ
lock_number lock =
    bit lock.closed + 2 * bit lock.locked.read + 4 * bit lock.locked.write + 8 * lock.references
    + 2 ^ 23 * lock.waiters.read
    + 2 ^ 43 * lock.waiters.write

-- the outcome with this answer and this lock, with no releases owed
abbrev pub answered : Answer → Lock → LockOutcome
answered answer lock = record { answer = answer; owed = twice 0; lock = lock }

-- a field of 20 bits, incremented; refused for reason 6 if it is full
abbrev pub raised_field : ℕ → Result ℕ Refusal
raised_field n = do
  refused_unless (nat_lt n (2 ^ 20 - 1)) Refusal.FieldOverflow
  Ok (n + 1)

-- the answer after a reference was dropped
abbrev pub last_of : Lock → Answer
last_of lock = if lock.closed && (lock.references == 0) then Answer.Last else Answer.NotLast

-- fdMutex.incref: takes a reference; answers No on a closed lock
abbrev pub incref : Lock → Result LockOutcome Refusal
incref lock =
    if lock.closed then Ok (answered Answer.No lock) else (do
      references ← raised_field lock.references
      Ok (answered Answer.Yes (record lock { references = references })))

-- fdMutex.increfAndClose: owes one release to each waiter of either side
abbrev pub incref_close : Lock → Result LockOutcome Refusal
incref_close lock =
    if lock.closed then Ok (answered Answer.No lock) else (do
      references ← raised_field lock.references
      Ok (record {
        answer = Answer.Yes;
        owed = lock.waiters;
        lock = record lock { closed = true; references = references; waiters = twice 0 };
      }))

-- fdMutex.decref: drops a reference; refused for reason 7 if there is none
abbrev pub decref : Lock → Result LockOutcome Refusal
decref lock = do
  refused_if (lock.references == 0) Refusal.InconsistentLock
  let left : Lock = record lock { references = lock.references - 1 }
  Ok (answered (last_of left) left)

-- fdMutex.rwlock: takes the side's lock if it is free, or else joins its waiters; answers No on a
-- closed lock
abbrev pub rw_lock : Side → Lock → Result LockOutcome Refusal
rw_lock side lock =
    if lock.closed then Ok (answered Answer.No lock)
    else (if of_side side lock.locked then (do
      waiters ← raised_field (of_side side lock.waiters)
      Ok (answered Answer.Wait (record lock { waiters = with_side side waiters lock.waiters })))
    else (do
      references ← raised_field lock.references
      Ok (answered Answer.Yes
          (record lock { locked = with_side side true lock.locked; references = references }))))

-- fdMutex.rwunlock: if the side had a waiter, the goroutine owes one release of that side
abbrev pub rw_unlock : Side → Lock → Result LockOutcome Refusal
rw_unlock side lock = do
  refused_if (not (of_side side lock.locked) || (lock.references == 0)) Refusal.InconsistentLock
  let waiters : ℕ = of_side side lock.waiters
  let left : Lock = record lock {
    locked = with_side side false lock.locked;
    references = lock.references - 1;
    waiters = with_side side (waiters - 1) lock.waiters;
  }
  Ok (record {
    answer = last_of left;
    owed = with_side side (min waiters 1) (twice 0);
    lock = left;
  })
