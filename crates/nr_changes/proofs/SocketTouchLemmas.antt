-- Steps on goroutines, sockets, locks and semaphores change only what they touch.
use Rattle.std.proofs.Common.{◌≡◌, ℕ, List, [], ◌∷◌, length, Option, Some, None, Result, Ok, refl, ap, ◌∙◌, subst, sym}
use Rattle.std.specs.Prelude.{Contains, slice_get, option_and_then, if◌then◌else◌, ◌==◌, nat_lt, nat_le}
use Rattle.std.specs.Option.{option_to_list}
use Rattle.nr_rev.specs.declared.sides.Side.{Side}
use Rattle.nr_rev.specs.declared.sides.Side.TheVariants.{Read, Write}
use Rattle.nr_rev.specs.declared.status.Status.{Status}
use Rattle.nr_rev.specs.declared.status.Status.TheVariants.{Idle, Owing}
use Rattle.nr_rev.specs.declared.step.Step.{Step}
use Rattle.nr_rev.specs.Lock
use Rattle.nr_rev.specs.declared.lock.Lock.{Lock as SocketLock}
use Rattle.nr_rev.specs.declared.lock.LockOutcome.{LockOutcome}
use Rattle.nr_rev.specs.declared.refusal.Refusal.{Refusal}
use Rattle.nr_rev.specs.Refusing.{◌>>=◌, refused_if, refused_unless}
use Rattle.nr_rev.specs.Semaphore.{Semaphore, is_free, front_of, released}
use Rattle.nr_rev.specs.Sides.{of_side}
use Rattle.nr_rev.specs.Socket.{Socket, room_of}
use Rattle.nr_rev.specs.Step.{spawn, exit, idle, status_of, socket_of, sized, lock_left, locker, may_lock, owing, incref, increfclose, decref, rwlock, rwunlock, acquire, tries_again, release, sockopen, arrive, peerclose, sysread, syswrite, drain, closewrite}
use Rattle.nr_rev.specs.WellFormed.{socket_named}
use Rattle.nr_rev.specs.World.{World, with_status, with_socket}
use Rattle.nr_laws.proofs.AspectLemmas.{ComesTo-ok, ComesTo-ends, ComesTo-any, ComesTo-bind, ComesTo-then}
use Rattle.nr_laws.proofs.LookupLemmas.{Ends-status_of, Ends-socket_of, Ends-acquiring_of, Ends-owing_of}
use Rattle.nr_changes.specs.Touched.{Touched, touched, socket_and, socket_at, front_for, released_by}
use Rattle.nr_changes.proofs.KeepsLemmas.{Keeps, Touches, Keeps-same, Keeps-then, Keeps-either, goroutine_set, goroutine_pushed, socket_set, socket_pushed}
use Rattle.nr_changes.proofs.MemberLemmas.{here, later}

-- ---- goroutines

pub spawn_touches : (w : World) → Touches (touched w Step.Spawn) w (spawn w)
spawn_touches w =
    ComesTo-then (ComesTo-any (refused_unless (nat_lt (length w.goroutines) w.limits.goroutines) _)) λ _.
    ComesTo-ok (goroutine_pushed _ w _ (here _ []))

pub exit_touches : (w : World) (g : ℕ) → Touches (touched w (Step.Exit g)) w (exit g w)
exit_touches w g =
    ComesTo-then (ComesTo-any (idle g w)) λ _.
    ComesTo-ok (goroutine_set _ w g _ _ (here g []))

-- ---- locking

locked : (w : World) (g s : ℕ) (status : Status) (socket : Socket) → Keeps (socket_and (Some s) (g ∷ [])) w (with_status g status (with_socket s socket w))
locked w g s status socket = Keeps-then (socket_set _ w s socket refl) (goroutine_set _ _ g status _ (here g []))

-- the result of an operation on a lock is stored, and the goroutine continues
left_touches : (w : World) (g s : ℕ) (operation : SocketLock → Result LockOutcome Refusal) (status : LockOutcome → Status)
    → Touches (socket_and (Some s) (g ∷ [])) w (socket_of s w >>= λ socket. operation socket.lock >>= λ left. Ok (lock_left g (status left) s socket left w))
left_touches w g s operation status =
    ComesTo-bind (ComesTo-any (socket_of s w)) λ socket _.
    ComesTo-bind (ComesTo-any (operation socket.lock)) λ left _.
    ComesTo-ok (locked w g s _ _)

pub incref_touches : (w : World) (g s : ℕ) → Touches (touched w (Step.Incref g s)) w (incref g s w)
incref_touches w g s = ComesTo-then (ComesTo-any (idle g w)) λ _. left_touches w g s Lock.incref (λ _. Idle)

pub increfclose_touches : (w : World) (g s : ℕ) → Touches (touched w (Step.IncrefClose g s)) w (increfclose g s w)
increfclose_touches w g s = ComesTo-then (ComesTo-any (idle g w)) λ _. left_touches w g s Lock.incref_close (λ left. owing s left.owed)

pub decref_touches : (w : World) (g s : ℕ) → Touches (touched w (Step.Decref g s)) w (decref g s w)
decref_touches w g s = ComesTo-then (ComesTo-any (idle g w)) λ _. left_touches w g s Lock.decref (λ _. Idle)

pub rwlock_touches : (w : World) (g s : ℕ) (side : Side) → Touches (touched w (Step.RwLock g s side)) w (rwlock g s side w)
rwlock_touches w g s side =
    ComesTo-bind (ComesTo-any (status_of g w)) λ status _.
    ComesTo-then (ComesTo-any (refused_unless (may_lock s side status) _)) λ _.
    left_touches w g s (Lock.rw_lock side) (λ left. locker s side left.answer)

pub rwunlock_touches : (w : World) (g s : ℕ) (side : Side) → Touches (touched w (Step.RwUnlock g s side)) w (rwunlock g s side w)
rwunlock_touches w g s side = ComesTo-then (ComesTo-any (idle g w)) λ _. left_touches w g s (Lock.rw_unlock side) (λ left. owing s left.owed)

-- ---- semaphores

pub acquire_touches : (w : World) (g : ℕ) → Touches (touched w (Step.Acquire g)) w (acquire g w)
acquire_touches w g =
    ComesTo-bind (ComesTo-ends (Ends-status_of g w)) λ status at.
    ComesTo-bind (ComesTo-ends (Ends-acquiring_of status)) λ place is.
    ComesTo-bind (ComesTo-any (socket_of place.0 w)) λ socket _.
    let named : socket_at g w ≡ Some place.0 = ap (option_and_then socket_named) (at ∙ ap Some is) in
    ComesTo-ok
    (Keeps-either (is_free (of_side place.1 socket.semaphores)) _ _
    (Keeps-then (socket_set _ w place.0 _ named) (goroutine_set _ _ g _ _ (here g [])))
    (Keeps-then (socket_set _ w place.0 _ named) (goroutine_set _ _ g _ _ (here g []))))

tries_again_keeps : (t : Touched) (s : ℕ) (side : Side) (front : Option ℕ) (w : World) → ((h : ℕ) → front ≡ Some h → Contains t.goroutines h) → Keeps t w (tries_again s side front w)
tries_again_keeps t s side None w among = Keeps-same
tries_again_keeps t s side (Some g) w among = goroutine_set t w g _ _ (among g refl)

pub release_touches : (w : World) (g : ℕ) → Touches (touched w (Step.Release g)) w (release g w)
release_touches w g =
    ComesTo-bind (ComesTo-ends (Ends-status_of g w)) λ status at.
    ComesTo-bind (ComesTo-ends (Ends-owing_of status)) λ debt is.
    ComesTo-bind (ComesTo-ends (Ends-socket_of debt.0 w)) λ socket there.
    let side : Side = if nat_lt 0 debt.1.read then Read else Write in
    let semaphore : Semaphore = of_side side socket.semaphores in
    ComesTo-bind (ComesTo-any (released semaphore)) λ left _.
    let owes : slice_get w.goroutines g ≡ Some (Owing debt.0 debt.1.read debt.1.write) = at ∙ ap Some is in
    let named : socket_at g w ≡ Some debt.0 = ap (option_and_then socket_named) owes in
    let front : option_and_then (λ x. front_for x w) (slice_get w.goroutines g) ≡ front_of semaphore =
    ap (option_and_then (λ x. front_for x w)) owes ∙ ap (option_and_then (λ (x : Socket). front_of (of_side side x.semaphores))) there
    in
    let among : (h : ℕ) → front_of semaphore ≡ Some h → Contains (touched w (Step.Release g)).goroutines h =
    λ h e. later g (released_by g w) h (subst (λ hs. Contains hs h) (sym (ap option_to_list (front ∙ e))) (here h []))
    in
    ComesTo-ok
    (Keeps-then (socket_set _ w debt.0 _ named)
    (Keeps-then (tries_again_keeps _ debt.0 side (front_of semaphore) _ among)
    (goroutine_set _ _ g _ _ (here g (released_by g w)))))

-- ---- transfers

pub sockopen_touches : (w : World) (rc wc : ℕ) → Touches (touched w (Step.SockOpen rc wc)) w (sockopen rc wc w)
sockopen_touches w rc wc =
    ComesTo-then (ComesTo-any (refused_unless (nat_lt (length w.sockets) w.limits.sockets) _)) λ _.
    ComesTo-then (ComesTo-any (sized rc w)) λ _.
    ComesTo-then (ComesTo-any (sized wc w)) λ _.
    ComesTo-ok (socket_pushed _ w _ refl)

pub arrive_touches : (w : World) (s : ℕ) (bytes : List ℕ) → Touches (touched w (Step.Arrive s bytes)) w (arrive s bytes w)
arrive_touches w s bytes =
    ComesTo-bind (ComesTo-any (socket_of s w)) λ socket _.
    ComesTo-then (ComesTo-any (refused_if (length bytes == 0) _)) λ _.
    ComesTo-then (ComesTo-any (refused_if socket.peer_closed _)) λ _.
    ComesTo-then (ComesTo-any (refused_unless (nat_le (length bytes) (room_of socket.buffers.read)) _)) λ _.
    ComesTo-ok (socket_set _ w s _ refl)

pub peerclose_touches : (w : World) (s : ℕ) → Touches (touched w (Step.PeerClose s)) w (peerclose s w)
peerclose_touches w s =
    ComesTo-bind (ComesTo-any (socket_of s w)) λ socket _.
    ComesTo-then (ComesTo-any (refused_if socket.peer_closed _)) λ _.
    ComesTo-ok (socket_set _ w s _ refl)

pub sysread_touches : (w : World) (g s n : ℕ) → Touches (touched w (Step.SysRead g s n)) w (sysread g s n w)
sysread_touches w g s n =
    ComesTo-then (ComesTo-any (idle g w)) λ _.
    ComesTo-bind (ComesTo-any (socket_of s w)) λ socket _.
    ComesTo-then (ComesTo-any (sized n w)) λ _.
    ComesTo-ok (socket_set _ w s _ refl)

pub syswrite_touches : (w : World) (g s : ℕ) (bytes : List ℕ) → Touches (touched w (Step.SysWrite g s bytes)) w (syswrite g s bytes w)
syswrite_touches w g s bytes =
    ComesTo-then (ComesTo-any (idle g w)) λ _.
    ComesTo-bind (ComesTo-any (socket_of s w)) λ socket _.
    ComesTo-then (ComesTo-any (refused_if (length bytes == 0) _)) λ _.
    ComesTo-ok (socket_set _ w s _ refl)

pub drain_touches : (w : World) (s n : ℕ) → Touches (touched w (Step.Drain s n)) w (drain s n w)
drain_touches w s n =
    ComesTo-bind (ComesTo-any (socket_of s w)) λ socket _.
    ComesTo-then (ComesTo-any (refused_if (n == 0) _)) λ _.
    ComesTo-then (ComesTo-any (refused_if (nat_lt (length socket.buffers.write.bytes) n) _)) λ _.
    ComesTo-ok (socket_set _ w s _ refl)

pub closewrite_touches : (w : World) (g s : ℕ) → Touches (touched w (Step.CloseWrite g s)) w (closewrite g s w)
closewrite_touches w g s =
    ComesTo-then (ComesTo-any (idle g w)) λ _.
    ComesTo-bind (ComesTo-any (socket_of s w)) λ socket _.
    ComesTo-ok (socket_set _ w s _ refl)
