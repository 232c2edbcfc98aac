-- Steps aside of descriptors: they leave rows and firings as they are, and make no new sleeper.
use Rattle.std.proofs.Common.{◌≡◌, ℕ, ℤ, ◌+◌, Bool, true, false, ◌&&◌, List, length, Option, Some, None, Result, Ok, refl, sym, subst, ◌∙◌}
use Rattle.std.specs.Prelude.{if◌then◌else◌, ◌==◌, nat_lt, nat_le, int_lt}
use Rattle.std.specs.Option.{option_and_then}
use Rattle.nr_rev.specs.declared.answer.Answer.{Answer}
use Rattle.nr_rev.specs.declared.lock.Lock.{Lock}
use Rattle.nr_rev.specs.declared.lock.LockOutcome.{LockOutcome}
use Rattle.nr_rev.specs.declared.refusal.Refusal.{Refusal}
use Rattle.nr_rev.specs.declared.sides.Side.{Side}
use Rattle.nr_rev.specs.declared.sides.Side.TheVariants.{Read, Write}
use Rattle.nr_rev.specs.declared.sides.Sides.{Sides}
use Rattle.nr_rev.specs.declared.status.Status.{Status}
use Rattle.nr_rev.specs.declared.status.Status.TheVariants.{Idle, Acquiring, Queued, Relock, Owing, Entering, Gone}
use Rattle.nr_rev.specs.Descriptor.{check}
use Rattle.nr_rev.specs.Lock
use Rattle.nr_rev.specs.Refusing.{◌>>=◌, ◌>>◌, refused_if, refused_unless}
use Rattle.nr_rev.specs.Semaphore.{Semaphore, acquired, front_of, is_free, released}
use Rattle.nr_rev.specs.Sides.{of_side}
use Rattle.nr_rev.specs.Socket.{Socket, room_of}
use Rattle.nr_rev.specs.Step.{Outcome, with_semaphore, spawn, exit, idle, status_of, socket_of, row_of, open_row_of, sized, owing, locker, may_lock, acquiring_of, owing_of, lock_left, incref, increfclose, decref, rwlock, rwunlock, acquire, tries_again, release, sockopen, arrive, peerclose, sysread, syswrite, drain, closewrite, waitbegin, checking_of, waitcheck, tick}
use Rattle.nr_rev.specs.World.{World, is_waited, with_status, with_socket}
use Rattle.nr_rev.specs.WellFormed.{HasView}
use Rattle.nr_rev.proofs.ListUpdateLemmas.{slice_get-push_unseen}
use Rattle.nr_laws.proofs.AspectLemmas.{ComesTo, ComesTo-ok, ComesTo-any, ComesTo-bind, ComesTo-then}
use Rattle.nr_protocol.proofs.DeadlineTimerLemmas.{Timed}
use Rattle.nr_protocol.proofs.SleepLemmas.{set_fewer}
use Rattle.nr_protocol.specs.Deadlines.{DeadlinesTimed}
use Rattle.nr_protocol.specs.Sleep.{sleeping_of}

-- rows and firings stay, and each sleeper slept before
pub record Aside (w next : World) : Type 0 where
  pub rows : next.descriptors ≡ w.descriptors
  pub firings : next.firings ≡ w.firings
  pub sleepers : (k : ℕ) (place : ℕ × Side) → HasView sleeping_of next.goroutines k place → HasView sleeping_of w.goroutines k place

abbrev pub Asides : World → Outcome → Type 0
Asides w o = ComesTo (λ (left : Answer × World). Aside w left.1) o

pub aside_timed : {w next : World} → Aside w next → Timed w → Timed next
aside_timed {w} {next} a h = subst (λ rows. DeadlinesTimed rows next.firings) (sym a.rows) (subst (DeadlinesTimed w.descriptors) (sym a.firings) h)

pub same_aside : (w : World) → Aside w w
same_aside w = record { rows = refl; firings = refl; sleepers = λ k place shows. shows }

-- a goroutine gets a status outside of sleep
pub status_aside : (g : ℕ) (status : Status) (w : World) → sleeping_of status ≡ None → Aside w (with_status g status w)
status_aside g status w none = record { rows = refl; firings = refl; sleepers = λ k place shows. set_fewer w.goroutines g k status place none shows }

pub then_aside : {w between next : World} → Aside w between → Aside between next → Aside w next
then_aside a b = record { rows = b.rows ∙ a.rows; firings = b.firings ∙ a.firings; sleepers = λ k place shows. a.sleepers k place (b.sleepers k place shows) }

-- a socket changes
socket_aside : (w : World) (sockets : List Socket) → Aside w (record w { sockets = sockets })
socket_aside w sockets = record { rows = refl; firings = refl; sleepers = λ k place shows. shows }

pub spawn_aside : (w : World) → Asides w (spawn w)
spawn_aside w =
    ComesTo-then (ComesTo-any (refused_unless (nat_lt (length w.goroutines) w.limits.goroutines) _)) λ _.
    ComesTo-ok (record { rows = refl; firings = refl; sleepers = λ k place shows. sym (slice_get-push_unseen (option_and_then sleeping_of) w.goroutines Idle k refl) ∙ shows })

pub exit_aside : (w : World) (g : ℕ) → Asides w (exit g w)
exit_aside w g = ComesTo-then (ComesTo-any (idle g w)) λ _. ComesTo-ok (status_aside g Gone w refl)

owing_awake : (s : ℕ) (owed : Sides ℕ) → sleeping_of (owing s owed) ≡ None
owing_awake s owed = go (owed.read + owed.write == 0)
  where
    go : (none : Bool) → sleeping_of (if none then Idle else Owing s owed.read owed.write) ≡ None
    go true = refl
    go false = refl

locker_awake : (s : ℕ) (side : Side) (answer : Answer) → sleeping_of (locker s side answer) ≡ None
locker_awake s side Answer.Wait = refl
locker_awake s side _ = refl

-- an operation on a lock by an idle goroutine
lock_aside : (op : Lock → Result LockOutcome Refusal) (status : LockOutcome → Status) (w : World) (g s : ℕ) → ((left : LockOutcome) → sleeping_of (status left) ≡ None)
    → Asides w (idle g w >> socket_of s w >>= λ socket. op socket.lock >>= λ left. Ok (lock_left g (status left) s socket left w))
lock_aside op status w g s awake =
    ComesTo-then (ComesTo-any (idle g w)) λ _.
    ComesTo-bind (ComesTo-any (socket_of s w)) λ socket _.
    ComesTo-bind (ComesTo-any (op socket.lock)) λ left _.
    ComesTo-ok (then_aside (socket_aside w _) (status_aside g (status left) (with_socket s (record socket { lock = left.lock }) w) (awake left)))

pub incref_aside : (w : World) (g s : ℕ) → Asides w (incref g s w)
incref_aside w g s = lock_aside Lock.incref (λ _. Idle) w g s (λ _. refl)

pub increfclose_aside : (w : World) (g s : ℕ) → Asides w (increfclose g s w)
increfclose_aside w g s = lock_aside Lock.incref_close (λ left. owing s left.owed) w g s (λ left. owing_awake s left.owed)

pub decref_aside : (w : World) (g s : ℕ) → Asides w (decref g s w)
decref_aside w g s = lock_aside Lock.decref (λ _. Idle) w g s (λ _. refl)

pub rwunlock_aside : (w : World) (g s : ℕ) (side : Side) → Asides w (rwunlock g s side w)
rwunlock_aside w g s side = lock_aside (Lock.rw_unlock side) (λ left. owing s left.owed) w g s (λ left. owing_awake s left.owed)

pub rwlock_aside : (w : World) (g s : ℕ) (side : Side) → Asides w (rwlock g s side w)
rwlock_aside w g s side =
    ComesTo-bind (ComesTo-any (status_of g w)) λ status _.
    ComesTo-then (ComesTo-any (refused_unless (may_lock s side status) _)) λ _.
    ComesTo-bind (ComesTo-any (socket_of s w)) λ socket _.
    ComesTo-bind (ComesTo-any (Lock.rw_lock side socket.lock)) λ left _.
    ComesTo-ok (then_aside (socket_aside w _) (status_aside g (locker s side left.answer) (with_socket s (record socket { lock = left.lock }) w) (locker_awake s side left.answer)))

pub acquire_aside : (w : World) (g : ℕ) → Asides w (acquire g w)
acquire_aside w g =
    ComesTo-bind (ComesTo-any (status_of g w)) λ status _.
    ComesTo-bind (ComesTo-any (acquiring_of status)) λ place _.
    ComesTo-bind (ComesTo-any (socket_of place.0 w)) λ socket _.
    let next : World = with_semaphore place.0 place.1 socket (acquired g (of_side place.1 socket.semaphores)) w in
    let first : Aside w next = socket_aside w _ in
    ComesTo-ok
    (either (is_free (of_side place.1 socket.semaphores)) _ _ (then_aside first (status_aside g (Relock place.0 place.1) next refl))
    (then_aside first (status_aside g (Queued place.0 place.1) next refl)))
  where
    either : (c : Bool) (x y : Answer × World) → Aside w x.1 → Aside w y.1 → Aside w (if c then x else y).1
    either true x y a b = a
    either false x y a b = b

tries_again_aside : (s : ℕ) (side : Side) (front : Option ℕ) (w : World) → Aside w (tries_again s side front w)
tries_again_aside s side None w = same_aside w
tries_again_aside s side (Some g) w = status_aside g (Acquiring s side) w refl

pub release_aside : (w : World) (g : ℕ) → Asides w (release g w)
release_aside w g =
    ComesTo-bind (ComesTo-any (status_of g w)) λ status _.
    ComesTo-bind (ComesTo-any (owing_of status)) λ place _.
    ComesTo-bind (ComesTo-any (socket_of place.0 w)) λ socket _.
    let side : Side = if nat_lt 0 place.1.read then Read else Write in
    let semaphore : Semaphore = of_side side socket.semaphores in
    ComesTo-bind (ComesTo-any (released semaphore)) λ left _.
    let next : World = with_semaphore place.0 side socket left w in
    let first : Aside w next = socket_aside w _ in
    ComesTo-ok (then_aside (then_aside first (tries_again_aside place.0 side (front_of semaphore) next)) (status_aside g _ (tries_again place.0 side (front_of semaphore) next) (owing_awake place.0 _)))

pub sockopen_aside : (w : World) (rc wc : ℕ) → Asides w (sockopen rc wc w)
sockopen_aside w rc wc =
    ComesTo-then (ComesTo-any (refused_unless (nat_lt (length w.sockets) w.limits.sockets) _)) λ _.
    ComesTo-then (ComesTo-any (sized rc w)) λ _.
    ComesTo-then (ComesTo-any (sized wc w)) λ _.
    ComesTo-ok (socket_aside w _)

pub arrive_aside : (w : World) (s : ℕ) (bytes : List ℕ) → Asides w (arrive s bytes w)
arrive_aside w s bytes =
    ComesTo-bind (ComesTo-any (socket_of s w)) λ socket _.
    ComesTo-then (ComesTo-any (refused_if (length bytes == 0) _)) λ _.
    ComesTo-then (ComesTo-any (refused_if socket.peer_closed _)) λ _.
    ComesTo-then (ComesTo-any (refused_unless (nat_le (length bytes) (room_of socket.buffers.read)) _)) λ _.
    ComesTo-ok (socket_aside w _)

pub peerclose_aside : (w : World) (s : ℕ) → Asides w (peerclose s w)
peerclose_aside w s =
    ComesTo-bind (ComesTo-any (socket_of s w)) λ socket _.
    ComesTo-then (ComesTo-any (refused_if socket.peer_closed _)) λ _.
    ComesTo-ok (socket_aside w _)

pub sysread_aside : (w : World) (g s n : ℕ) → Asides w (sysread g s n w)
sysread_aside w g s n =
    ComesTo-then (ComesTo-any (idle g w)) λ _.
    ComesTo-bind (ComesTo-any (socket_of s w)) λ socket _.
    ComesTo-then (ComesTo-any (sized n w)) λ _.
    ComesTo-ok (socket_aside w _)

pub syswrite_aside : (w : World) (g s : ℕ) (bytes : List ℕ) → Asides w (syswrite g s bytes w)
syswrite_aside w g s bytes =
    ComesTo-then (ComesTo-any (idle g w)) λ _.
    ComesTo-bind (ComesTo-any (socket_of s w)) λ socket _.
    ComesTo-then (ComesTo-any (refused_if (length bytes == 0) _)) λ _.
    ComesTo-ok (socket_aside w _)

pub drain_aside : (w : World) (s n : ℕ) → Asides w (drain s n w)
drain_aside w s n =
    ComesTo-bind (ComesTo-any (socket_of s w)) λ socket _.
    ComesTo-then (ComesTo-any (refused_if (n == 0) _)) λ _.
    ComesTo-then (ComesTo-any (refused_if (nat_lt (length socket.buffers.write.bytes) n) _)) λ _.
    ComesTo-ok (socket_aside w _)

pub closewrite_aside : (w : World) (g s : ℕ) → Asides w (closewrite g s w)
closewrite_aside w g s =
    ComesTo-then (ComesTo-any (idle g w)) λ _.
    ComesTo-bind (ComesTo-any (socket_of s w)) λ socket _.
    ComesTo-ok (socket_aside w _)

pub waitbegin_aside : (w : World) (g d : ℕ) (side : Side) → Asides w (waitbegin g d side w)
waitbegin_aside w g d side =
    ComesTo-then (ComesTo-any (idle g w)) λ _.
    ComesTo-bind (ComesTo-any (open_row_of d w)) λ row _.
    ComesTo-then (ComesTo-any (refused_if ((check side row.descriptor == 0) && is_waited d side w.goroutines) _)) λ _.
    ComesTo-ok (begun (check side row.descriptor == 0))
  where
    begun : (zero : Bool) → Aside w (if zero then with_status g (Entering d side) w else w)
    begun true = status_aside g (Entering d side) w refl
    begun false = same_aside w

pub waitcheck_aside : (w : World) (g : ℕ) → Asides w (waitcheck g w)
waitcheck_aside w g =
    ComesTo-bind (ComesTo-any (status_of g w)) λ status _.
    ComesTo-bind (ComesTo-any (checking_of status)) λ place _.
    ComesTo-bind (ComesTo-any (row_of place.0 w)) λ row _.
    ComesTo-ok (again place.0 place.1 (check place.1 row.descriptor == 0))
  where
    again : (d : ℕ) (side : Side) (zero : Bool) → Aside w (with_status g (if zero then Entering d side else Idle) w)
    again d side true = status_aside g (Entering d side) w refl
    again d side false = status_aside g Idle w refl

pub tick_aside : (w : World) (t : ℤ) → Asides w (tick t w)
tick_aside w t =
    ComesTo-then (ComesTo-any (refused_if (int_lt t w.clock) _)) λ _.
    ComesTo-ok (record { rows = refl; firings = refl; sleepers = λ k place shows. shows })
