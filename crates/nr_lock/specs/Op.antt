-- The outcome of an operation on a lock word.
use Rattle.std.specs.Prelude.{◌≡◌, Option, Some, None, Result, Ok, Err}
use Rattle.nr_rev.specs.declared.lock.Lock.{Lock}
use Rattle.nr_rev.specs.declared.lock.LockOutcome.{LockOutcome}
use Rattle.nr_rev.specs.declared.refusal.Refusal.{Refusal}
use Rattle.nr_rev.specs.Lock.{incref, incref_close, decref, rw_lock, rw_unlock}
use Rattle.nr_lock.specs.declared.op.LockAnswer.{LockAnswer}
use Rattle.nr_lock.specs.declared.op.LockOp.{LockOp}
use Rattle.nr_lock.specs.declared.op.LockOp.TheVariants.{Incref, IncrefClose, Decref, RwLock, RwUnlock}

-- the answer and the resulting lock, or the reason for a refusal
abbrev pub outcome : Lock → LockOp → Result LockOutcome Refusal
outcome lock Incref = incref lock
outcome lock IncrefClose = incref_close lock
outcome lock Decref = decref lock
outcome lock (RwLock side) = rw_lock side lock
outcome lock (RwUnlock side) = rw_unlock side lock

-- the outcome with this answer and this lock
abbrev pub left : LockAnswer → Lock → LockOutcome
left answer lock = record { answer = answer.answer; owed = answer.owed; lock = lock }

-- true if the operation applies, with this answer and this resulting lock
abbrev pub StepTo : Lock → LockOp → LockAnswer → Lock → Type 0
StepTo old op answer new = outcome old op ≡ Ok (left answer new)

-- the reason for a refusal, if the outcome is one
abbrev pub refusal_of : Result LockOutcome Refusal → Option Refusal
refusal_of (Ok left) = None
refusal_of (Err reason) = Some reason

-- the reason why an operation is refused, if it is
abbrev pub lock_reason : Lock → LockOp → Option Refusal
lock_reason lock op = refusal_of (outcome lock op)

-- the outcome with the answer and the lock of this pair
abbrev pub left_by : LockAnswer × Lock → LockOutcome
left_by (answer, lock) = left answer lock
