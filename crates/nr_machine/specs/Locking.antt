-- The outcome of an operation on a socket's lock.
use Rattle.std.specs.Prelude.{ℕ, Ok}
use Rattle.nr_rev.specs.declared.lock.LockOutcome.{LockOutcome}
use Rattle.nr_rev.specs.declared.status.Status.{Status}
use Rattle.nr_rev.specs.declared.status.Status.TheVariants.{Idle}
use Rattle.nr_rev.specs.Refusing.{◌>>=◌}
use Rattle.nr_rev.specs.Step.{Outcome, lock_left, locker, owing, socket_of}
use Rattle.nr_rev.specs.World.{World}
use Rattle.nr_lock.specs.Op as lock
use Rattle.nr_lock.specs.declared.op.LockOp.{LockOp}
use Rattle.nr_lock.specs.declared.op.LockOp.TheVariants.{Incref, IncrefClose, Decref, RwLock, RwUnlock}

-- the status of a goroutine after an operation on socket s's lock
abbrev pub status_left : ℕ → LockOp → LockOutcome → Status
status_left s Incref left = Idle
status_left s IncrefClose left = owing s left.owed
status_left s Decref left = Idle
status_left s (RwLock side) left = locker s side left.answer
status_left s (RwUnlock side) left = owing s left.owed

-- the outcome of an operation by goroutine g, whose status allows it, on the lock of socket s
abbrev pub locking : ℕ → ℕ → LockOp → World → Outcome
locking g s op w = do
  socket ← socket_of s w
  left ← lock.outcome socket.lock op
  Ok (lock_left g (status_left s op left) s socket left w)
