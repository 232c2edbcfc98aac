-- incref, increfclose, decref, rwlock and rwunlock keep a world well formed.
use Rattle.std.proofs.Common.{◌≡◌, ℕ, ◌-◌, ◌^◌, ◌<◌, true, not, ◌||◌, Some, Result, Ok, refl, sym, subst, length, length-set, arith, min}
use Rattle.std.proofs.lemmas.Option.{same_Some, slice_get_within}
use Rattle.std.specs.Prelude.{nat_lt, ◌==◌}
use Rattle.nr_rev.specs.declared.sides.Side.{Side}
use Rattle.nr_rev.specs.declared.status.Status.{Status}
use Rattle.nr_rev.specs.declared.status.Status.TheVariants.{Idle, Relock}
use Rattle.nr_rev.specs.declared.answer.Answer.{Answer}
use Rattle.nr_rev.specs.declared.refusal.Refusal.{Refusal}
use Rattle.nr_rev.specs.Sides.{of_side, twice}
use Rattle.nr_rev.specs.declared.lock.Lock.{Lock}
use Rattle.nr_rev.specs.declared.lock.LockOutcome.{LockOutcome}
use Rattle.nr_rev.specs.Lock
use Rattle.nr_rev.specs.Lock.{raised_field}
use Rattle.nr_rev.specs.Refusing.{◌>>=◌, ◌>>◌}
use Rattle.nr_rev.specs.World.{World, with_socket, with_status}
use Rattle.nr_rev.specs.Step.{rwlock, socket_of, may_lock, locker, incref, increfclose, decref, rwunlock, owing, idle, lock_left}
use Rattle.nr_rev.specs.WellFormed.{WellFormed, LockFits, SocketFits, IsField, socket_named, owed_of}
use Rattle.nr_rev.proofs.SideLemmas.{each_side, with_side_all}
use Rattle.nr_rev.proofs.NumberLemmas.{below_of, lowered}
use Rattle.nr_laws.proofs.StatusSetLemmas.{is_outside, moved_outside, comes_to_owe}
use Rattle.nr_laws.proofs.SocketSetLemmas.{socket_set_keeps}
use Rattle.nr_rev.proofs.OutcomeLemmas.{Ends, Keeps, Ends-ok, Ends-bind, Ends-then, Ends-either, Ends-refused_if, Ends-refused_unless}
use Rattle.nr_laws.proofs.LookupLemmas.{Ends-idle, Ends-status_of, Ends-socket_of}

Ends-raised_field : (n : ℕ) → Ends IsField (raised_field n)
Ends-raised_field n =
    Ends-then (Ends-refused_unless (nat_lt n (2 ^ 20 - 1)) _ refl) λ is_below.
    let below : n < 2 ^ 20 - 1 = below_of _ _ is_below in
    Ends-ok (omega arith)

Ends-rw_lock : (side : Side) (lock : Lock) → LockFits lock → Ends (λ left. LockFits left.lock) (Lock.rw_lock side lock)
Ends-rw_lock side lock h =
    Ends-either lock.closed (λ _. Ends-ok h) λ _.
    Ends-either (of_side side lock.locked)
    (λ _.
    Ends-bind (Ends-raised_field (of_side side lock.waiters)) λ n small.
    Ends-ok (record { references = h.references; waiters = with_side_all IsField side n lock.waiters small h.waiters }))
    (λ _.
    Ends-bind (Ends-raised_field lock.references) λ n small.
    Ends-ok (record { references = small; waiters = h.waiters }))

lockers_are_outside : (s : ℕ) (side : Side) (answer : Answer) → is_outside (locker s side answer) ≡ true
lockers_are_outside s side Answer.Wait = refl
lockers_are_outside s side _ = refl

may_lock_outside : (s : ℕ) (side : Side) (status : Status) → may_lock s side status ≡ true → is_outside status ≡ true
may_lock_outside s side Idle e = refl
may_lock_outside s side (Relock k other) e = refl
may_lock_outside s side _ e = cc

locker_named : (s : ℕ) (side : Side) (answer : Answer) (k : ℕ) → socket_named (locker s side answer) ≡ Some k → s ≡ k
locker_named s side Answer.Wait k e = same_Some _ _ e
locker_named s side _ k e = cc

locker_owes : (s : ℕ) (side : Side) (answer : Answer) (owed : ℕ × ℕ) → owed_of (locker s side answer) ≡ Some owed → ⊥
locker_owes s side Answer.Wait owed e = cc
locker_owes s side _ owed e = cc

-- the lock after an operation on it, and the goroutine's status
pub record Leaves (s : ℕ) (status : Status) (left : LockOutcome) : Type 0 where
  pub lock : LockFits left.lock
  pub owed : (side : Side) → IsField (of_side side left.owed)
  pub owes : status ≡ owing s left.owed

-- an operation on the lock by an idle goroutine
lock_keeps : (op : Lock → Result LockOutcome Refusal) (status : LockOutcome → Status) (w : World) (g s : ℕ) → ((lock : Lock) → LockFits lock → Ends (λ left. Leaves s (status left) left) (op lock))
    → WellFormed w → Keeps (idle g w >> socket_of s w >>= λ socket. op socket.lock >>= λ left. Ok (lock_left g (status left) s socket left w))
lock_keeps op status w g s leaves h =
    Ends-then (Ends-idle g w) λ at.
    Ends-bind (Ends-socket_of s w) λ socket there.
    let fits : SocketFits w.limits.buffer socket = h.sockets s socket there in
    Ends-bind (leaves socket.lock fits.lock) λ left l.
    Ends-ok
    (subst (λ x. WellFormed (with_status g x (with_socket s (record socket { lock = left.lock }) w))) (sym l.owes)
    (comes_to_owe _ g s Idle left.owed
    (socket_set_keeps w s socket _ h there (λ _. refl) (record { lock = l.lock; counts = fits.counts; bytes = fits.bytes; capacities = fits.capacities }))
    at refl (rw length-set (slice_get_within _ _ _ there)) l.owed))

none_owed : (side : Side) → IsField (of_side side (twice 0))
none_owed = each_side _ (omega arith) (omega arith)

pub incref_sound : (w : World) (g s : ℕ) → WellFormed w → Keeps (incref g s w)
incref_sound w g s =
    lock_keeps Lock.incref (λ _. Idle) w g s λ lock h.
    Ends-either lock.closed (λ _. Ends-ok (record { lock = h; owed = none_owed; owes = refl })) λ _.
    Ends-bind (Ends-raised_field lock.references) λ n small.
    Ends-ok (record { lock = record { references = small; waiters = h.waiters }; owed = none_owed; owes = refl })

pub increfclose_sound : (w : World) (g s : ℕ) → WellFormed w → Keeps (increfclose g s w)
increfclose_sound w g s =
    lock_keeps Lock.incref_close (λ left. owing s left.owed) w g s λ lock h.
    Ends-either lock.closed (λ _. Ends-ok (record { lock = h; owed = none_owed; owes = refl })) λ _.
    Ends-bind (Ends-raised_field lock.references) λ n small.
    Ends-ok (record { lock = record { references = small; waiters = none_owed }; owed = h.waiters; owes = refl })

pub decref_sound : (w : World) (g s : ℕ) → WellFormed w → Keeps (decref g s w)
decref_sound w g s =
    lock_keeps Lock.decref (λ _. Idle) w g s λ lock h.
    Ends-then (Ends-refused_if (lock.references == 0) _ refl) λ _.
    Ends-ok (record { lock = record { references = lowered _ h.references; waiters = h.waiters }; owed = none_owed; owes = refl })

pub rwunlock_sound : (w : World) (g s : ℕ) (side : Side) → WellFormed w → Keeps (rwunlock g s side w)
rwunlock_sound w g s side =
    lock_keeps (Lock.rw_unlock side) (λ left. owing s left.owed) w g s λ lock h.
    Ends-then (Ends-refused_if (not (of_side side lock.locked) || (lock.references == 0)) _ refl) λ _.
    let one : IsField (min (of_side side lock.waiters) 1) = omega arith in
    Ends-ok (record {
      lock = record { references = lowered _ h.references; waiters = with_side_all IsField side _ lock.waiters (lowered _ (h.waiters side)) h.waiters };
      owed = with_side_all IsField side _ (twice 0) one none_owed;
      owes = refl;
    })

pub rwlock_sound : (w : World) (g s : ℕ) (side : Side) → WellFormed w → Keeps (rwlock g s side w)
rwlock_sound w g s side h =
    Ends-bind (Ends-status_of g w) λ status at.
    Ends-then (Ends-refused_unless (may_lock s side status) _ refl) λ may.
    Ends-bind (Ends-socket_of s w) λ socket there.
    let fits : SocketFits w.limits.buffer socket = h.sockets s socket there in
    Ends-bind (Ends-rw_lock side socket.lock fits.lock) λ left locked.
    Ends-ok
    (moved_outside _ g status (locker s side left.answer)
    (socket_set_keeps w s socket _ h there (λ _. refl) (record { lock = locked; counts = fits.counts; bytes = fits.bytes; capacities = fits.capacities }))
    at (may_lock_outside s side status may) (lockers_are_outside s side left.answer)
    (λ k named. rw length-set (subst (λ (n : ℕ). n < length w.sockets) (locker_named s side left.answer k named) (slice_get_within _ _ _ there)))
    (λ reads writes owed. absurd (locker_owes s side left.answer _ owed)))
