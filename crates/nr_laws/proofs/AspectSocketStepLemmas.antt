-- Steps on goroutines, locks, semaphores and sockets change only the aspects that their kinds
-- allow.
use Rattle.std.proofs.Common.{◌≡◌, ℕ, true, List, length, Option, Some, None, Result, Ok, refl}
use Rattle.std.specs.Prelude.{slice_get, if◌then◌else◌, ◌==◌, nat_lt, nat_le}
use Rattle.nr_rev.specs.declared.kind.Kind.{Kind}
use Rattle.nr_rev.specs.declared.lock.Lock.{Lock}
use Rattle.nr_rev.specs.declared.lock.LockOutcome.{LockOutcome}
use Rattle.nr_rev.specs.declared.aspect.Aspect.{Aspect}
use Rattle.nr_rev.specs.declared.aspect.Aspect.TheVariants.{Goroutines, Locks, Semaphores, Inputs, Outputs}
use Rattle.nr_rev.specs.declared.refusal.Refusal.{Refusal}
use Rattle.nr_rev.specs.declared.sides.Side.{Side}
use Rattle.nr_rev.specs.declared.sides.Side.TheVariants.{Read, Write}
use Rattle.nr_rev.specs.declared.status.Status.{Status}
use Rattle.nr_rev.specs.declared.status.Status.TheVariants.{Idle}
use Rattle.nr_rev.specs.Lock
use Rattle.nr_rev.specs.Aspect.{is_among, changed_aspects}
use Rattle.nr_rev.specs.Refusing.{◌>>=◌, ◌>>◌, refused_if, refused_unless}
use Rattle.nr_rev.specs.Semaphore.{Semaphore, is_free, acquired, front_of, released}
use Rattle.nr_rev.specs.Sides.{of_side}
use Rattle.nr_rev.specs.Socket.{Socket, room_of}
use Rattle.nr_rev.specs.Step.{spawn, exit, idle, status_of, socket_of, sized, may_lock, acquiring_of, owing_of, lock_left, incref, increfclose, decref, rwlock, rwunlock, with_semaphore, acquire, tries_again, release, sockopen, with_buffer, arrive, peerclose, sysread, syswrite, drain, closewrite}
use Rattle.nr_rev.specs.World.{World, with_status, with_socket}
use Rattle.nr_laws.proofs.LookupLemmas.{Ends-idle, Ends-socket_of}
use Rattle.nr_laws.proofs.AspectLemmas.{Leaves, Changes, ComesTo-ok, ComesTo-ends, ComesTo-any, ComesTo-bind, ComesTo-then, not_both, Leaves-same, Leaves-then, Leaves-either, goroutines_set, status_kept, socket_set, sockets_set}

-- ---- goroutines

pub spawn_changes : (w : World) → Changes (changed_aspects Kind.Spawn) w (spawn w)
spawn_changes w =
    ComesTo-then (ComesTo-any (refused_unless (nat_lt (length w.goroutines) w.limits.goroutines) _)) λ _.
    ComesTo-ok (goroutines_set _ w _ refl)

pub exit_changes : (w : World) (g : ℕ) → Changes (changed_aspects Kind.Exit) w (exit g w)
exit_changes w g =
    ComesTo-then (ComesTo-any (idle g w)) λ _.
    ComesTo-ok (goroutines_set _ w _ refl)

-- ---- locking

relocked : (aspects : List Aspect) (w : World) (s : ℕ) (socket : Socket) (lock : Lock) → is_among aspects Locks ≡ true → slice_get w.sockets s ≡ Some socket
    → Leaves aspects w (with_socket s (record socket { lock = lock }) w)
relocked aspects w s socket lock may at =
    socket_set aspects w s socket _ at (record { lock = λ e. not_both _ may e; semaphores = λ _. refl; input = λ _. refl; output = λ _. refl; shut = λ _. refl })

-- an operation on a lock by an idle goroutine, which stays idle
stays_idle : (aspects : List Aspect) → is_among aspects Locks ≡ true → (op : Lock → Result LockOutcome Refusal) (w : World) (g s : ℕ)
    → Changes aspects w (idle g w >> socket_of s w >>= λ socket. op socket.lock >>= λ left. Ok (lock_left g Idle s socket left w))
stays_idle aspects may op w g s =
    ComesTo-then (ComesTo-ends (Ends-idle g w)) λ at.
    ComesTo-bind (ComesTo-ends (Ends-socket_of s w)) λ socket there.
    ComesTo-bind (ComesTo-any (op socket.lock)) λ left _.
    ComesTo-ok (Leaves-then (relocked aspects w s socket left.lock may there) (status_kept aspects _ g Idle at))

-- an operation on a lock by any goroutine
locks_and_moves : (aspects : List Aspect) (w : World) (g s : ℕ) (socket : Socket) (status : Status) (left : LockOutcome) → is_among aspects Locks ≡ true → is_among aspects Goroutines ≡ true
    → slice_get w.sockets s ≡ Some socket → Leaves aspects w (with_status g status (with_socket s (record socket { lock = left.lock }) w))
locks_and_moves aspects w g s socket status left may may_move at = Leaves-then (relocked aspects w s socket left.lock may at) (goroutines_set aspects _ _ may_move)

pub incref_changes : (w : World) (g s : ℕ) → Changes (changed_aspects Kind.Incref) w (incref g s w)
incref_changes w g s = stays_idle _ refl Lock.incref w g s

pub decref_changes : (w : World) (g s : ℕ) → Changes (changed_aspects Kind.Decref) w (decref g s w)
decref_changes w g s = stays_idle _ refl Lock.decref w g s

pub increfclose_changes : (w : World) (g s : ℕ) → Changes (changed_aspects Kind.IncrefClose) w (increfclose g s w)
increfclose_changes w g s =
    ComesTo-then (ComesTo-any (idle g w)) λ _.
    ComesTo-bind (ComesTo-ends (Ends-socket_of s w)) λ socket there.
    ComesTo-bind (ComesTo-any (Lock.incref_close socket.lock)) λ left _.
    ComesTo-ok (locks_and_moves _ w g s socket _ left refl refl there)

pub rwlock_changes : (w : World) (g s : ℕ) (side : Side) → Changes (changed_aspects Kind.RwLock) w (rwlock g s side w)
rwlock_changes w g s side =
    ComesTo-bind (ComesTo-any (status_of g w)) λ status _.
    ComesTo-then (ComesTo-any (refused_unless (may_lock s side status) _)) λ _.
    ComesTo-bind (ComesTo-ends (Ends-socket_of s w)) λ socket there.
    ComesTo-bind (ComesTo-any (Lock.rw_lock side socket.lock)) λ left _.
    ComesTo-ok (locks_and_moves _ w g s socket _ left refl refl there)

pub rwunlock_changes : (w : World) (g s : ℕ) (side : Side) → Changes (changed_aspects Kind.RwUnlock) w (rwunlock g s side w)
rwunlock_changes w g s side =
    ComesTo-then (ComesTo-any (idle g w)) λ _.
    ComesTo-bind (ComesTo-ends (Ends-socket_of s w)) λ socket there.
    ComesTo-bind (ComesTo-any (Lock.rw_unlock side socket.lock)) λ left _.
    ComesTo-ok (locks_and_moves _ w g s socket _ left refl refl there)

-- ---- semaphores

semaphore_set : (aspects : List Aspect) (w : World) (s : ℕ) (side : Side) (socket : Socket) (semaphore : Semaphore) → is_among aspects Semaphores ≡ true → slice_get w.sockets s ≡ Some socket
    → Leaves aspects w (with_semaphore s side socket semaphore w)
semaphore_set aspects w s side socket semaphore may at =
    socket_set aspects w s socket _ at (record { lock = λ _. refl; semaphores = λ e. not_both _ may e; input = λ _. refl; output = λ _. refl; shut = λ _. refl })

pub acquire_changes : (w : World) (g : ℕ) → Changes (changed_aspects Kind.Acquire) w (acquire g w)
acquire_changes w g =
    ComesTo-bind (ComesTo-any (status_of g w)) λ status _.
    ComesTo-bind (ComesTo-any (acquiring_of status)) λ place _.
    ComesTo-bind (ComesTo-ends (Ends-socket_of place.0 w)) λ socket there.
    let set = semaphore_set (changed_aspects Kind.Acquire) w place.0 place.1 socket (acquired g (of_side place.1 socket.semaphores)) refl there in
    ComesTo-ok (Leaves-either (is_free (of_side place.1 socket.semaphores)) _ _ (Leaves-then set (goroutines_set _ _ _ refl)) (Leaves-then set (goroutines_set _ _ _ refl)))

tries_again_leaves : (aspects : List Aspect) (s : ℕ) (side : Side) (front : Option ℕ) (w : World) → is_among aspects Goroutines ≡ true → Leaves aspects w (tries_again s side front w)
tries_again_leaves aspects s side None w may = Leaves-same
tries_again_leaves aspects s side (Some g) w may = goroutines_set aspects w _ may

pub release_changes : (w : World) (g : ℕ) → Changes (changed_aspects Kind.Release) w (release g w)
release_changes w g =
    ComesTo-bind (ComesTo-any (status_of g w)) λ status _.
    ComesTo-bind (ComesTo-any (owing_of status)) λ place _.
    ComesTo-bind (ComesTo-ends (Ends-socket_of place.0 w)) λ socket there.
    let side : Side = if nat_lt 0 place.1.read then Read else Write in
    let semaphore : Semaphore = of_side side socket.semaphores in
    ComesTo-bind (ComesTo-any (released semaphore)) λ left _.
    ComesTo-ok
    (Leaves-then (semaphore_set _ w place.0 side socket left refl there)
    (Leaves-then (tries_again_leaves _ place.0 side (front_of semaphore) _ refl) (goroutines_set _ _ _ refl)))

-- ---- transfers

pub sockopen_changes : (w : World) (rc wc : ℕ) → Changes (changed_aspects Kind.SockOpen) w (sockopen rc wc w)
sockopen_changes w rc wc =
    ComesTo-then (ComesTo-any (refused_unless (nat_lt (length w.sockets) w.limits.sockets) _)) λ _.
    ComesTo-then (ComesTo-any (sized rc w)) λ _.
    ComesTo-then (ComesTo-any (sized wc w)) λ _.
    ComesTo-ok (sockets_set _ w _ (record { locks = refl; semaphores = refl; inputs = refl; outputs = refl; shut = refl }))

input_set : (aspects : List Aspect) (w : World) (s : ℕ) (socket : Socket) (bytes : List ℕ) → is_among aspects Inputs ≡ true → slice_get w.sockets s ≡ Some socket
    → Leaves aspects w (with_socket s (with_buffer Read bytes socket) w)
input_set aspects w s socket bytes may at =
    socket_set aspects w s socket _ at (record { lock = λ _. refl; semaphores = λ _. refl; input = λ e. not_both _ may e; output = λ _. refl; shut = λ _. refl })

output_set : (aspects : List Aspect) (w : World) (s : ℕ) (socket : Socket) (bytes : List ℕ) → is_among aspects Outputs ≡ true → slice_get w.sockets s ≡ Some socket
    → Leaves aspects w (with_socket s (with_buffer Write bytes socket) w)
output_set aspects w s socket bytes may at =
    socket_set aspects w s socket _ at (record { lock = λ _. refl; semaphores = λ _. refl; input = λ _. refl; output = λ e. not_both _ may e; shut = λ _. refl })

pub arrive_changes : (w : World) (s : ℕ) (bytes : List ℕ) → Changes (changed_aspects Kind.Arrive) w (arrive s bytes w)
arrive_changes w s bytes =
    ComesTo-bind (ComesTo-ends (Ends-socket_of s w)) λ socket there.
    ComesTo-then (ComesTo-any (refused_if (length bytes == 0) _)) λ _.
    ComesTo-then (ComesTo-any (refused_if socket.peer_closed _)) λ _.
    ComesTo-then (ComesTo-any (refused_unless (nat_le (length bytes) (room_of socket.buffers.read)) _)) λ _.
    ComesTo-ok (input_set _ w s socket _ refl there)

pub sysread_changes : (w : World) (g s n : ℕ) → Changes (changed_aspects Kind.SysRead) w (sysread g s n w)
sysread_changes w g s n =
    ComesTo-then (ComesTo-any (idle g w)) λ _.
    ComesTo-bind (ComesTo-ends (Ends-socket_of s w)) λ socket there.
    ComesTo-then (ComesTo-any (sized n w)) λ _.
    ComesTo-ok (input_set _ w s socket _ refl there)

pub syswrite_changes : (w : World) (g s : ℕ) (bytes : List ℕ) → Changes (changed_aspects Kind.SysWrite) w (syswrite g s bytes w)
syswrite_changes w g s bytes =
    ComesTo-then (ComesTo-any (idle g w)) λ _.
    ComesTo-bind (ComesTo-ends (Ends-socket_of s w)) λ socket there.
    ComesTo-then (ComesTo-any (refused_if (length bytes == 0) _)) λ _.
    ComesTo-ok (output_set _ w s socket _ refl there)

pub drain_changes : (w : World) (s n : ℕ) → Changes (changed_aspects Kind.Drain) w (drain s n w)
drain_changes w s n =
    ComesTo-bind (ComesTo-ends (Ends-socket_of s w)) λ socket there.
    ComesTo-then (ComesTo-any (refused_if (n == 0) _)) λ _.
    ComesTo-then (ComesTo-any (refused_if (nat_lt (length socket.buffers.write.bytes) n) _)) λ _.
    ComesTo-ok (output_set _ w s socket _ refl there)

pub peerclose_changes : (w : World) (s : ℕ) → Changes (changed_aspects Kind.PeerClose) w (peerclose s w)
peerclose_changes w s =
    ComesTo-bind (ComesTo-ends (Ends-socket_of s w)) λ socket there.
    ComesTo-then (ComesTo-any (refused_if socket.peer_closed _)) λ _.
    ComesTo-ok (socket_set _ w s socket _ there (record { lock = λ _. refl; semaphores = λ _. refl; input = λ _. refl; output = λ _. refl; shut = λ _. refl }))

pub closewrite_changes : (w : World) (g s : ℕ) → Changes (changed_aspects Kind.CloseWrite) w (closewrite g s w)
closewrite_changes w g s =
    ComesTo-then (ComesTo-any (idle g w)) λ _.
    ComesTo-bind (ComesTo-ends (Ends-socket_of s w)) λ socket there.
    ComesTo-ok (socket_set _ w s socket _ there (record { lock = λ _. refl; semaphores = λ _. refl; input = λ _. refl; output = λ _. refl; shut = λ e. cc }))
