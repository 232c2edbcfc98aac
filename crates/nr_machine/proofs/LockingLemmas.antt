-- Steps on a socket's lock have the same outcome in the parts and in the machine.
use Rattle.std.proofs.Common.{◌≡◌, [], ℕ, ◌+◌, ◌<◌, true, false, length, Option, Some, None, Ok, Err, refl, sym, ap, subst, ◌∙◌, arith, cond}
use Rattle.std.proofs.lemmas.Bool.Decides.{nat_tests}
use Rattle.std.proofs.lemmas.Option.{slice_get_within}
use Rattle.std.specs.Prelude.{◌==◌, nat_lt, slice_get, List}
use Rattle.nr_rev.specs.declared.answer.Answer.{Answer}
use Rattle.nr_rev.specs.declared.lock.Lock.{Lock}
use Rattle.nr_rev.specs.declared.lock.LockOutcome.{LockOutcome}
use Rattle.nr_rev.specs.declared.refusal.Refusal.{Refusal}
use Rattle.nr_rev.specs.declared.refusal.Refusal.TheVariants.{NoSuchSocket}
use Rattle.nr_rev.specs.declared.sides.Side.{Side}
use Rattle.nr_rev.specs.declared.sides.Sides.{Sides}
use Rattle.nr_rev.specs.declared.status.Status.{Status}
use Rattle.nr_rev.specs.declared.status.Status.TheVariants.{Idle, Owing}
use Rattle.nr_rev.specs.Refusing.{◌>>=◌, found_or}
use Rattle.nr_rev.specs.Socket.{Socket}
use Rattle.nr_rev.specs.Step.{lock_left, locker, owing, status_of}
use Rattle.nr_rev.specs.WellFormed.{socket_named}
use Rattle.nr_rev.specs.World.{World, with_socket, with_status}
use Rattle.nr_laws.proofs.LookupLemmas.{Ends-status_of}
use Rattle.nr_gsema.specs.Applying.{IsQueuedUp}
use Rattle.nr_gsema.specs.Step.{is_movable, names_within}
use Rattle.nr_gsema.specs.declared.delta.GDelta.{GDelta}
use Rattle.nr_lock.specs.Op as lock_op
use Rattle.nr_lock.specs.declared.op.LockAnswer.{LockAnswer}
use Rattle.nr_lock.specs.declared.op.LockOp.{LockOp}
use Rattle.nr_lock.specs.declared.op.LockOp.TheVariants.{Incref, IncrefClose, Decref, RwLock, RwUnlock}
use Rattle.nr_machine.specs.declared.world_core.Core.{Core}
use Rattle.nr_machine.specs.declared.delta.LockUndo.{LockUndo}
use Rattle.nr_machine.specs.declared.delta.TheConstants.{MOST_WORDS}
use Rattle.nr_machine.specs.declared.delta.WorldUndo.TheVariants.{Locked}
use Rattle.nr_machine.specs.Auxiliary.Changing.{CanMove, Locks, MovesOn, lock_outcome, with_lock}
use Rattle.nr_machine.specs.Auxiliary.Changing as changing
use Rattle.nr_machine.specs.Fits.{IsWorld, PartsFit}
use Rattle.nr_machine.specs.Locking.{locking, status_left}
use Rattle.nr_machine.specs.Auxiliary.Made.{Made}
use Rattle.nr_machine.specs.World.{WorldParts, meant}
use Rattle.nr_machine.proofs.FitsLemmas.{lock_fits, lock_tied, retied, status_fits, status_tied, tied_then}
use Rattle.nr_machine.proofs.SocketsLemmas.{length-sockets_of, lock_set, socket_at, socket_past, socket_with}

-- changing the lock of socket s and the status of goroutine g in the parts changes them in the
-- world
pub locked_means : (m : WorldParts) (g s : ℕ) (status : Status) (before after : Lock)
    → meant (record m { core = changing.with_status g status (with_lock s after m.core) })
    ≡ with_status g status (with_socket s (record (socket_with m s before) { lock = after }) (meant m))
locked_means m g s status before after =
    ap (λ (sockets : List Socket). record (with_status g status (meant m)) { sockets = sockets })
    (lock_set m.core.locks.items m.core.goroutines.semaphores m.socks s after)

module _ (m : WorldParts) (g s : ℕ) (op : LockOp) where
  by_lock : (o : Option Lock) (e : Refusal) → slice_get m.core.locks.items s ≡ o → (found_or o NoSuchSocket >>= λ lock. lock_op.outcome lock op) ≡ Err e
      → locking g s op (meant m) ≡ Err e
  by_lock None e at refused = rw (socket_past m.core.locks.items m.core.goroutines.semaphores m.socks s at) (cc)
  by_lock (Some lock) e at refused = rw (socket_at m.core.locks.items m.core.goroutines.semaphores m.socks s lock at, refused) refl

  -- if an operation is refused on the packed lock, it is refused in the represented world too
  pub locking_refused : (e : Refusal) → lock_outcome s op m.core ≡ Err e → locking g s op (meant m) ≡ Err e
  locking_refused e refused = by_lock (slice_get m.core.locks.items s) e refl refused

  -- if an operation succeeds on the packed lock, it succeeds in the represented world too
  pub locking_leads : (before after : Lock) (answer : LockAnswer) → slice_get m.core.locks.items s ≡ Some before → lock_op.StepTo before op answer after
      → locking g s op (meant m) ≡ Ok (lock_left g (status_left s op (lock_op.left answer after)) s (socket_with m s before) (lock_op.left answer after) (meant m))
  locking_leads before after answer at leads = rw (socket_at m.core.locks.items m.core.goroutines.semaphores m.socks s before at, leads) refl

-- after an operation on a lock, the goroutine is neither queued nor ended
owing_movable : (s : ℕ) (owed : Sides ℕ) → is_movable (owing s owed) ≡ true
owing_movable s owed = elim (owed.read + owed.write == 0) as (λ b. is_movable (cond b Idle (Owing s owed.read owed.write)) ≡ true) [ true ↦ refl | false ↦ refl ]

locker_movable : (s : ℕ) (side : Side) (answer : Answer) → is_movable (locker s side answer) ≡ true
locker_movable s side Answer.Wait = refl
locker_movable s side _ = refl

left_movable : (s : ℕ) (op : LockOp) (left : LockOutcome) → is_movable (status_left s op left) ≡ true
left_movable s Incref left = refl
left_movable s IncrefClose left = owing_movable s left.owed
left_movable s Decref left = refl
left_movable s (RwLock side) left = locker_movable s side left.answer
left_movable s (RwUnlock side) left = owing_movable s left.owed

-- the status after an operation on a lock names only the lock's socket
module _ (n s : ℕ) (below : nat_lt s n ≡ true) where
  owing_named : (owed : Sides ℕ) → names_within n (socket_named (owing s owed)) ≡ true
  owing_named owed = elim (owed.read + owed.write == 0) as (λ b. names_within n (socket_named (cond b Idle (Owing s owed.read owed.write))) ≡ true) [ true ↦ refl | false ↦ below ]

  locker_named : (side : Side) (answer : Answer) → names_within n (socket_named (locker s side answer)) ≡ true
  locker_named side Answer.Wait = below
  locker_named side _ = refl

  left_named : (op : LockOp) (left : LockOutcome) → names_within n (socket_named (status_left s op left)) ≡ true
  left_named Incref left = refl
  left_named IncrefClose left = owing_named left.owed
  left_named Decref left = refl
  left_named (RwLock side) left = locker_named side left.answer
  left_named (RwUnlock side) left = owing_named left.owed

-- an existing lock belongs to a socket below the limit
lock_below : (m : WorldParts) (s : ℕ) (lock : Lock) → IsWorld m → slice_get m.core.locks.items s ≡ Some lock → nat_lt s (length m.core.goroutines.semaphores) ≡ true
lock_below m s lock h at =
    let within : s < length m.core.locks.items = slice_get_within m.core.locks.items s lock at in
    let many : length m.core.locks.items ≡ length (meant m).sockets = sym (length-sockets_of m.core.locks.items m.core.goroutines.semaphores m.socks) in
    let most = h.meaning.sockets_limited in
    let room = h.parts.core.semaphores in
    let below : s < length m.core.goroutines.semaphores = omega (arith, within, many, most, room) in
    grind (arith, nat_tests)

-- the goroutine may move to the status after the operation
pub lock_moves : (m : WorldParts) (g s : ℕ) (from : Status) (op : LockOp) (before after : Lock) (answer : LockAnswer) (undo : LockUndo) (mid : Core)
    → IsWorld m → status_of g (meant m) ≡ Ok from → is_movable from ≡ true → Locks m.core s op before after answer undo mid
    → CanMove mid g from (status_left s op (lock_op.left answer after))
lock_moves m g s from op before after answer undo mid h there movable locks =
    subst (λ (core : Core). CanMove core g from (status_left s op (lock_op.left answer after))) (sym locks.rest)
    (record {
      there = (Ends-status_of g (meant m)).value from there;
      from_movable = movable;
      to_movable = left_movable s op (lock_op.left answer after);
      named = left_named (length m.core.goroutines.semaphores) s (lock_below m s before h locks.there) op (lock_op.left answer after);
      queued = h.parts.core.queued;
    })

module _ (old : WorldParts) (g s : ℕ) (op : LockOp) (answer : LockAnswer) (undo : LockUndo) (moved : Option GDelta) (mid new : Core) where
  -- the step is complete after the changes to the lock and to the goroutine's status
  pub locking_made : (before after : Lock) → PartsFit old → Locks old.core s op before after answer undo mid
      → MovesOn mid g (status_left s op (lock_op.left answer after)) moved new
      → Made (locking g s op (meant old)) [] MOST_WORDS old answer.answer (Locked undo moved) (record old { core = new })
  locking_made before after parts locks moves =
      let to : Status = status_left s op (lock_op.left answer after) in
      let core : Core = changing.with_status g to (with_lock s after old.core) in
      let is : new ≡ core = moves.rest ∙ ap (changing.with_status g to) locks.rest in
      let queued : IsQueuedUp core.goroutines = subst (λ (c : Core). IsQueuedUp c.goroutines) is moves.queued in
      let light = moves.light in (
        record {
          leads = locking_leads old g s op before after answer locks.there locks.step
              ∙ ap (λ (w : World). Ok (answer.answer, w))
              (sym (ap (λ (c : Core). meant (record old { core = c })) is ∙ locked_means old g s to before after));
          parts = subst (λ (c : Core). PartsFit (record old { core = c })) (sym is)
              (retied old core parts
              (status_fits (with_lock s after old.core) g to (lock_fits old.core s before after parts.core locks.there locks.fits) queued)
              (tied_then old.core (with_lock s after old.core) core (lock_tied old.core s after) (status_tied (with_lock s after old.core) g to)));
          timers = ap (λ (c : Core). c.timers) is;
        },
        (
          ((mid, moves.back, locks.back), refl),
          omega (arith, light),
        ),
      )
