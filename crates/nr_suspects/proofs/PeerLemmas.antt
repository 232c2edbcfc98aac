-- For each socket, the notices give the same other end of the connection as the world.
use Rattle.std.proofs.Common.{◌≡◌, ℕ, zero, suc, ◌*◌, ◌&&◌, ◌||◌, not, Bool, true, false, length, List, [], ◌∷◌, Option, Some, None, inl, inr, refl, sym, ap, ◌∙◌, true≢false}
use Rattle.std.specs.Prelude.{if◌then◌else◌, ◌==◌, int_le, int_lt, nat_le, nat_lt, option_map, remove, slice_get, slice_set, ℤ}
use Rattle.std.proofs.lemmas.Bool.{eqb-false, eqb-true}
use Rattle.nr_rev.specs.contracts.answer.AnswerPartialEq.TheImpl as answer_eq
use Rattle.nr_rev.specs.declared.answer.Answer.{Answer}
use Rattle.nr_rev.specs.declared.answer.Answer.TheVariants as answers
use Rattle.nr_rev.specs.declared.descriptor.DescriptorRow.{DescriptorRow}
use Rattle.nr_rev.specs.declared.descriptor.WaitWord.{WaitWord}
use Rattle.nr_rev.specs.declared.descriptor.WaitWord.TheVariants.{Nil, Ready, Wait, Held}
use Rattle.nr_rev.specs.declared.sides.Mode.{Mode}
use Rattle.nr_rev.specs.declared.sides.Side.{Side}
use Rattle.nr_rev.specs.declared.sides.Side.TheVariants.{Read, Write}
use Rattle.nr_rev.specs.declared.step.Step.{Step}
use Rattle.nr_rev.specs.Descriptor.{Change, change_by_deadline, change_by_event, change_by_evict, change_by_firing, check, closed, opened_for}
use Rattle.nr_rev.specs.Lock
use Rattle.nr_rev.specs.Run.{Recording, world_at}
use Rattle.nr_rev.specs.Refusing.{found_or, refused_if, refused_unless}
use Rattle.nr_rev.specs.Semaphore.{front_of, is_free, released}
use Rattle.nr_rev.specs.Sides.{of_side}
use Rattle.nr_rev.specs.Socket.{Socket, new_socket, room_of}
use Rattle.nr_rev.specs.Step.{Outcome, acquiring_of, armed_of, checking_of, entering_of, idle, may_lock, open_row_of, owing_of, parking_of, row_of, sized, socket_of, status_of, swapping_of, after_change, after_wakes, armed_by, committed_by, fired_with, outcome, swapped_by, taken, tries_again, with_semaphore}
use Rattle.nr_rev.specs.World.{World, is_free_number, is_waited, least_entry}
use Rattle.nr_rev.proofs.ListUpdateLemmas.{slice_get-set_cases, slice_get-set_here, slice_get-set_unseen}
use Rattle.nr_laws.proofs.AspectLemmas.{ComesTo, ComesTo-ok, ComesTo-refused, ComesTo-any, ComesTo-bind, ComesTo-ends, ComesTo-then, ComesTo-either}
use Rattle.nr_laws.proofs.LookupLemmas.{Ends-socket_of}
use Rattle.nr_suspects.specs.declared.notice.Notice.{Notice}
use Rattle.nr_suspects.specs.declared.notice.Notice.TheVariants as notices
use Rattle.nr_suspects.specs.declared.notice.Visit.{Visit}
use Rattle.nr_suspects.specs.declared.peer.Peer.{Peer}
use Rattle.nr_suspects.specs.Notices.{checking, fired_descriptor, if_answered, is_taken, notice, notice_of_opening, running, visit, visiting}
use Rattle.nr_suspects.specs.Peers.{closed_peer, peer, peer_after, peer_of}
use Rattle.nr_suspects.proofs.ListLemmas.{push_seen}
use Rattle.nr_suspects.proofs.NoticeLemmas.{Moves, Made, Stays, checking_cases, moves, opening_cases}

-- ---- steps that leave the sockets alone

abbrev KeepsSockets : World → Answer × World → Type 0
KeepsSockets w left = left.1.sockets ≡ w.sockets

woken_sockets : (gs : List ℕ) (w : World) → (after_wakes gs w).sockets ≡ w.sockets
woken_sockets [] w = refl
woken_sockets (g ∷ gs) w = woken_sockets gs _

again_sockets : (s : ℕ) (side : Side) (o : Option ℕ) (w : World) → (tries_again s side o w).sockets ≡ w.sockets
again_sockets s side None w = refl
again_sockets s side (Some g) w = refl

changed_sockets : (d : ℕ) (row : DescriptorRow) (change : Change) (w : World) → ComesTo (λ (next : World). next.sockets ≡ w.sockets) (after_change d row change w)
changed_sockets d row change w = ComesTo-bind (ComesTo-any _) λ left _. ComesTo-ok (woken_sockets change.woken _)

taken_sockets : (free : List ℕ) (w : World) → ComesTo (λ (place : ℕ × World). place.1.sockets ≡ w.sockets) (taken free w)
taken_sockets (d ∷ free) w = ComesTo-ok refl
taken_sockets [] w = ComesTo-then (ComesTo-any _) λ _. ComesTo-ok refl

either_sockets : (w : World) (b : Bool) (x y : World) → x.sockets ≡ w.sockets → y.sockets ≡ w.sockets → (if b then x else y).sockets ≡ w.sockets
either_sockets w true x y e f = e
either_sockets w false x y e f = f

armed_sockets : (g d : ℕ) (side : Side) (word : WaitWord) (row : DescriptorRow) (w : World) → ComesTo (KeepsSockets w) (armed_by g d side word row w)
armed_sockets g d side Nil row w = ComesTo-ok refl
armed_sockets g d side Ready row w = ComesTo-ok refl
armed_sockets g d side Wait row w = ComesTo-refused
armed_sockets g d side (Held h) row w = ComesTo-refused

committed_sockets : (g d : ℕ) (side : Side) (word : WaitWord) (row : DescriptorRow) (w : World) → KeepsSockets w (committed_by g d side word row w)
committed_sockets g d side Nil row w = refl
committed_sockets g d side Ready row w = refl
committed_sockets g d side Wait row w = refl
committed_sockets g d side (Held h) row w = refl

swapped_sockets : (g d : ℕ) (side : Side) (word : WaitWord) (row : DescriptorRow) (w : World) → KeepsSockets w (swapped_by g d side word row w)
swapped_sockets g d side Nil row w = refl
swapped_sockets g d side Ready row w = refl
swapped_sockets g d side Wait row w = refl
swapped_sockets g d side (Held h) row w = refl

fired_sockets : (d : ℕ) (row : DescriptorRow) (change : Option Change) (w : World) → ComesTo (KeepsSockets w) (fired_with d row change w)
fired_sockets d row None w = ComesTo-ok refl
fired_sockets d row (Some change) w = ComesTo-bind (changed_sockets d row change w) λ next same. ComesTo-ok same

-- ---- steps that leave the other ends alone

-- the other end of socket s in the machine
abbrev pub seen_peer : World → ℕ → Option Peer
seen_peer w s = option_map peer_of (slice_get w.sockets s)

abbrev KeepsPeers : World → Answer × World → Type 0
KeepsPeers w left = (s : ℕ) → seen_peer left.1 s ≡ seen_peer w s

by_sockets : (w : World) (o : Outcome) → ComesTo (KeepsSockets w) o → ComesTo (KeepsPeers w) o
by_sockets w o kept = record { value = λ left is s. ap (λ (xs : List Socket). option_map peer_of (slice_get xs s)) (kept.value left is) }

-- if a socket changes but its other end doesn't, no socket's other end changes
peers_set : (w : World) (k : ℕ) (old new : Socket) → slice_get w.sockets k ≡ Some old → peer_of new ≡ peer_of old → (s : ℕ) → option_map peer_of (slice_get (slice_set w.sockets k new) s) ≡ seen_peer w s
peers_set w k old new at same s = slice_get-set_unseen (option_map peer_of) w.sockets k old new s at (ap Some same)

either_peers : (w : World) (b : Bool) (x y : Answer × World) → KeepsPeers w x → KeepsPeers w y → KeepsPeers w (if b then x else y)
either_peers w true x y e f = e
either_peers w false x y e f = f

spawn_peers : (w : World) → ComesTo (KeepsPeers w) (outcome w Step.Spawn)
spawn_peers w = by_sockets w (outcome w Step.Spawn) (ComesTo-then (ComesTo-any (refused_unless (nat_lt (length w.goroutines) w.limits.goroutines) _)) λ _. ComesTo-ok refl)

exit_peers : (w : World) (g : ℕ) → ComesTo (KeepsPeers w) (outcome w (Step.Exit g))
exit_peers w g = by_sockets w (outcome w (Step.Exit g)) (ComesTo-then (ComesTo-any (idle g w)) λ _. ComesTo-ok refl)

arrive_peers : (w : World) (k : ℕ) (bytes : List ℕ) → ComesTo (KeepsPeers w) (outcome w (Step.Arrive k bytes))
arrive_peers w k bytes = ComesTo-bind (ComesTo-ends (Ends-socket_of k w)) λ socket there. ComesTo-then (ComesTo-any (refused_if (length bytes == 0) _)) λ _. ComesTo-then (ComesTo-any (refused_if socket.peer_closed _)) λ _. ComesTo-then (ComesTo-any (refused_unless (nat_le (length bytes) (room_of socket.buffers.read)) _)) λ _. ComesTo-ok (peers_set w k socket _ there refl)

sysread_peers : (w : World) (g : ℕ) (k : ℕ) (n : ℕ) → ComesTo (KeepsPeers w) (outcome w (Step.SysRead g k n))
sysread_peers w g k n = ComesTo-then (ComesTo-any (idle g w)) λ _. ComesTo-bind (ComesTo-ends (Ends-socket_of k w)) λ socket there. ComesTo-then (ComesTo-any (sized n w)) λ _. ComesTo-ok (peers_set w k socket _ there refl)

syswrite_peers : (w : World) (g : ℕ) (k : ℕ) (bytes : List ℕ) → ComesTo (KeepsPeers w) (outcome w (Step.SysWrite g k bytes))
syswrite_peers w g k bytes = ComesTo-then (ComesTo-any (idle g w)) λ _. ComesTo-bind (ComesTo-ends (Ends-socket_of k w)) λ socket there. ComesTo-then (ComesTo-any (refused_if (length bytes == 0) _)) λ _. ComesTo-ok (peers_set w k socket _ there refl)

drain_peers : (w : World) (k : ℕ) (n : ℕ) → ComesTo (KeepsPeers w) (outcome w (Step.Drain k n))
drain_peers w k n = ComesTo-bind (ComesTo-ends (Ends-socket_of k w)) λ socket there. ComesTo-then (ComesTo-any (refused_if (n == 0) _)) λ _. ComesTo-then (ComesTo-any (refused_if (nat_lt (length socket.buffers.write.bytes) n) _)) λ _. ComesTo-ok (peers_set w k socket _ there refl)

incref_peers : (w : World) (g : ℕ) (k : ℕ) → ComesTo (KeepsPeers w) (outcome w (Step.Incref g k))
incref_peers w g k = ComesTo-then (ComesTo-any (idle g w)) λ _. ComesTo-bind (ComesTo-ends (Ends-socket_of k w)) λ socket there. ComesTo-bind (ComesTo-any (Lock.incref socket.lock)) λ left _. ComesTo-ok (peers_set w k socket _ there refl)

increfclose_peers : (w : World) (g : ℕ) (k : ℕ) → ComesTo (KeepsPeers w) (outcome w (Step.IncrefClose g k))
increfclose_peers w g k = ComesTo-then (ComesTo-any (idle g w)) λ _. ComesTo-bind (ComesTo-ends (Ends-socket_of k w)) λ socket there. ComesTo-bind (ComesTo-any (Lock.incref_close socket.lock)) λ left _. ComesTo-ok (peers_set w k socket _ there refl)

decref_peers : (w : World) (g : ℕ) (k : ℕ) → ComesTo (KeepsPeers w) (outcome w (Step.Decref g k))
decref_peers w g k = ComesTo-then (ComesTo-any (idle g w)) λ _. ComesTo-bind (ComesTo-ends (Ends-socket_of k w)) λ socket there. ComesTo-bind (ComesTo-any (Lock.decref socket.lock)) λ left _. ComesTo-ok (peers_set w k socket _ there refl)

rwlock_peers : (w : World) (g : ℕ) (k : ℕ) (s : Side) → ComesTo (KeepsPeers w) (outcome w (Step.RwLock g k s))
rwlock_peers w g k s = ComesTo-bind (ComesTo-any (status_of g w)) λ status _. ComesTo-then (ComesTo-any (refused_unless (may_lock k s status) _)) λ _. ComesTo-bind (ComesTo-ends (Ends-socket_of k w)) λ socket there. ComesTo-bind (ComesTo-any (Lock.rw_lock s socket.lock)) λ left _. ComesTo-ok (peers_set w k socket _ there refl)

rwunlock_peers : (w : World) (g : ℕ) (k : ℕ) (s : Side) → ComesTo (KeepsPeers w) (outcome w (Step.RwUnlock g k s))
rwunlock_peers w g k s = ComesTo-then (ComesTo-any (idle g w)) λ _. ComesTo-bind (ComesTo-ends (Ends-socket_of k w)) λ socket there. ComesTo-bind (ComesTo-any (Lock.rw_unlock s socket.lock)) λ left _. ComesTo-ok (peers_set w k socket _ there refl)

acquire_peers : (w : World) (g : ℕ) → ComesTo (KeepsPeers w) (outcome w (Step.Acquire g))
acquire_peers w g = ComesTo-bind (ComesTo-any (status_of g w)) λ status _. ComesTo-bind (ComesTo-any (acquiring_of status)) λ place _. ComesTo-bind (ComesTo-ends (Ends-socket_of place.0 w)) λ socket there. ComesTo-ok (either_peers w (is_free (of_side place.1 socket.semaphores)) _ _ (peers_set w place.0 socket _ there refl) (peers_set w place.0 socket _ there refl))

release_peers : (w : World) (g : ℕ) → ComesTo (KeepsPeers w) (outcome w (Step.Release g))
release_peers w g = ComesTo-bind (ComesTo-any (status_of g w)) λ status _. ComesTo-bind (ComesTo-any (owing_of status)) λ debt _. ComesTo-bind (ComesTo-ends (Ends-socket_of debt.0 w)) λ socket there. ComesTo-bind (ComesTo-any (released (of_side (if nat_lt 0 debt.1.read then Read else Write) socket.semaphores))) λ left _. ComesTo-ok (λ s. ap (λ (xs : List Socket). option_map peer_of (slice_get xs s)) (again_sockets debt.0 (if nat_lt 0 debt.1.read then Read else Write) (front_of (of_side (if nat_lt 0 debt.1.read then Read else Write) socket.semaphores)) (with_semaphore debt.0 (if nat_lt 0 debt.1.read then Read else Write) socket left w)) ∙ peers_set w debt.0 socket _ there refl s)

pollopen_peers : (w : World) (g : ℕ) (k : ℕ) → ComesTo (KeepsPeers w) (outcome w (Step.PollOpen g k))
pollopen_peers w g k = by_sockets w (outcome w (Step.PollOpen g k)) (ComesTo-then (ComesTo-any (idle g w)) λ _. ComesTo-bind (ComesTo-any (socket_of k w)) λ socket _. ComesTo-bind (taken_sockets w.free w) λ place same. ComesTo-bind (ComesTo-any (row_of place.0 place.1)) λ row _. ComesTo-bind (ComesTo-any (opened_for k row.descriptor)) λ descriptor _. ComesTo-ok same)

pollclose_peers : (w : World) (g : ℕ) (e : ℕ) → ComesTo (KeepsPeers w) (outcome w (Step.PollClose g e))
pollclose_peers w g e = by_sockets w (outcome w (Step.PollClose g e)) (ComesTo-then (ComesTo-any (idle g w)) λ _. ComesTo-bind (ComesTo-any (open_row_of e w)) λ row _. ComesTo-then (ComesTo-any (refused_unless row.descriptor.closing _)) λ _. ComesTo-then (ComesTo-any (refused_if (is_waited e Read w.goroutines || is_waited e Write w.goroutines) _)) λ _. ComesTo-bind (ComesTo-any (closed row.descriptor)) λ descriptor _. ComesTo-ok refl)

pollreset_peers : (w : World) (g : ℕ) (e : ℕ) (s : Side) → ComesTo (KeepsPeers w) (outcome w (Step.PollReset g e s))
pollreset_peers w g e s = by_sockets w (outcome w (Step.PollReset g e s)) (ComesTo-then (ComesTo-any (idle g w)) λ _. ComesTo-bind (ComesTo-any (open_row_of e w)) λ row _. ComesTo-then (ComesTo-any (refused_if ((check s row.descriptor == 0) && is_waited e s w.goroutines) _)) λ _. ComesTo-ok (either_sockets w (check s row.descriptor == 0) _ w refl refl))

waitbegin_peers : (w : World) (g : ℕ) (e : ℕ) (s : Side) → ComesTo (KeepsPeers w) (outcome w (Step.WaitBegin g e s))
waitbegin_peers w g e s = by_sockets w (outcome w (Step.WaitBegin g e s)) (ComesTo-then (ComesTo-any (idle g w)) λ _. ComesTo-bind (ComesTo-any (open_row_of e w)) λ row _. ComesTo-then (ComesTo-any (refused_if ((check s row.descriptor == 0) && is_waited e s w.goroutines) _)) λ _. ComesTo-ok (either_sockets w (check s row.descriptor == 0) _ w refl refl))

blockarm_peers : (w : World) (g : ℕ) → ComesTo (KeepsPeers w) (outcome w (Step.BlockArm g))
blockarm_peers w g = by_sockets w (outcome w (Step.BlockArm g)) (ComesTo-bind (ComesTo-any (status_of g w)) λ status _. ComesTo-bind (ComesTo-any (entering_of status)) λ place _. ComesTo-bind (ComesTo-any (row_of place.0 w)) λ row _. armed_sockets g place.0 place.1 (of_side place.1 row.descriptor.words) row w)

blockcheck_peers : (w : World) (g : ℕ) → ComesTo (KeepsPeers w) (outcome w (Step.BlockCheck g))
blockcheck_peers w g = by_sockets w (outcome w (Step.BlockCheck g)) (ComesTo-bind (ComesTo-any (status_of g w)) λ status _. ComesTo-bind (ComesTo-any (armed_of status)) λ place _. ComesTo-bind (ComesTo-any (row_of place.0 w)) λ row _. ComesTo-ok refl)

parkcommit_peers : (w : World) (g : ℕ) → ComesTo (KeepsPeers w) (outcome w (Step.ParkCommit g))
parkcommit_peers w g = by_sockets w (outcome w (Step.ParkCommit g)) (ComesTo-bind (ComesTo-any (status_of g w)) λ status _. ComesTo-bind (ComesTo-any (parking_of status)) λ place _. ComesTo-bind (ComesTo-any (row_of place.0 w)) λ row _. ComesTo-ok (committed_sockets g place.0 place.1 (of_side place.1 row.descriptor.words) row w))

blockswap_peers : (w : World) (g : ℕ) → ComesTo (KeepsPeers w) (outcome w (Step.BlockSwap g))
blockswap_peers w g = by_sockets w (outcome w (Step.BlockSwap g)) (ComesTo-bind (ComesTo-any (status_of g w)) λ status _. ComesTo-bind (ComesTo-any (swapping_of status)) λ place _. ComesTo-bind (ComesTo-any (row_of place.0 w)) λ row _. ComesTo-ok (swapped_sockets g place.0 place.1 (of_side place.1 row.descriptor.words) row w))

waitcheck_peers : (w : World) (g : ℕ) → ComesTo (KeepsPeers w) (outcome w (Step.WaitCheck g))
waitcheck_peers w g = by_sockets w (outcome w (Step.WaitCheck g)) (ComesTo-bind (ComesTo-any (status_of g w)) λ status _. ComesTo-bind (ComesTo-any (checking_of status)) λ place _. ComesTo-bind (ComesTo-any (row_of place.0 w)) λ row _. ComesTo-ok refl)

setdeadline_peers : (w : World) (g : ℕ) (e : ℕ) (mode : Mode) (x : ℤ) → ComesTo (KeepsPeers w) (outcome w (Step.SetDeadline g e mode x))
setdeadline_peers w g e mode x = by_sockets w (outcome w (Step.SetDeadline g e mode x)) (ComesTo-then (ComesTo-any (idle g w)) λ _. ComesTo-bind (ComesTo-any (open_row_of e w)) λ row _. ComesTo-bind (ComesTo-any (change_by_deadline w.clock mode x row.descriptor)) λ change _. ComesTo-bind (changed_sockets e row change w) λ next same. ComesTo-ok same)

evict_peers : (w : World) (g : ℕ) (e : ℕ) → ComesTo (KeepsPeers w) (outcome w (Step.Evict g e))
evict_peers w g e = by_sockets w (outcome w (Step.Evict g e)) (ComesTo-then (ComesTo-any (idle g w)) λ _. ComesTo-bind (ComesTo-any (open_row_of e w)) λ row _. ComesTo-bind (ComesTo-any (change_by_evict row.descriptor)) λ change _. ComesTo-bind (changed_sockets e row change w) λ next same. ComesTo-ok same)

pollevent_peers : (w : World) (e : ℕ) (tag : ℕ) (mode : Mode) (error : Bool) → ComesTo (KeepsPeers w) (outcome w (Step.PollEvent e tag mode error))
pollevent_peers w e tag mode error = by_sockets w (outcome w (Step.PollEvent e tag mode error)) (ComesTo-bind (ComesTo-any (row_of e w)) λ row _. ComesTo-either (is_free_number e w.free || not (tag == row.descriptor.fdseq)) (ComesTo-ok refl) (ComesTo-bind (changed_sockets e row (change_by_event mode error row.descriptor) w) λ next same. ComesTo-ok same))

tick_peers : (w : World) (x : ℤ) → ComesTo (KeepsPeers w) (outcome w (Step.Tick x))
tick_peers w x = by_sockets w (outcome w (Step.Tick x)) (ComesTo-then (ComesTo-any (refused_if (int_lt x w.clock) _)) λ _. ComesTo-ok refl)

pop_peers : (w : World) → ComesTo (KeepsPeers w) (outcome w Step.Pop)
pop_peers w = by_sockets w (outcome w Step.Pop) (ComesTo-bind (ComesTo-any (found_or (least_entry w) _)) λ entry _. ComesTo-then (ComesTo-any (refused_unless (int_le entry.timer.due w.clock) _)) λ _. ComesTo-then (ComesTo-any (refused_unless (nat_lt (length w.firings) (2 * w.limits.descriptors)) _)) λ _. ComesTo-bind (ComesTo-any (row_of entry.descriptor w)) λ row _. ComesTo-ok refl)

fire_peers : (w : World) (i : ℕ) → ComesTo (KeepsPeers w) (outcome w (Step.Fire i))
fire_peers w i = by_sockets w (outcome w (Step.Fire i)) (ComesTo-bind (ComesTo-any (found_or (slice_get w.firings i) _)) λ entry _. ComesTo-bind (ComesTo-any (row_of entry.descriptor w)) λ row _. ComesTo-bind (ComesTo-any (change_by_firing entry.timer.function entry.timer.sequence row.descriptor)) λ change _. fired_sockets entry.descriptor row change (record w { firings = remove w.firings i }))

closewrite_peers : (w : World) (g : ℕ) (k : ℕ) → ComesTo (KeepsPeers w) (outcome w (Step.CloseWrite g k))
closewrite_peers w g k = ComesTo-then (ComesTo-any (idle g w)) λ _. ComesTo-bind (ComesTo-ends (Ends-socket_of k w)) λ socket there. ComesTo-ok (peers_set w k socket _ there refl)

-- ---- the notices of other ends

-- true unless the notice is that a socket was opened or that a socket's peer closed
abbrev is_peerless : Notice → Bool
is_peerless (notices.SocketOpened s capacity) = false
is_peerless (notices.PeerClosed s) = false
is_peerless x = true

peerless_stays : (s : ℕ) (x : Notice) (p : Option Peer) → is_peerless x ≡ true → peer_after s x p ≡ p
peerless_stays s (notices.Opened d k) p e = refl
peerless_stays s (notices.Event d mode) p e = refl
peerless_stays s (notices.Tried k side) p e = refl
peerless_stays s (notices.TookReadiness v) p e = refl
peerless_stays s (notices.Checked v code) p e = refl
peerless_stays s (notices.SetDeadline g d mode) p e = refl
peerless_stays s (notices.PassedDeadline d passings) p e = refl
peerless_stays s (notices.TookReference g k) p e = refl
peerless_stays s (notices.GaveReference g k) p e = refl
peerless_stays s (notices.SocketOpened k capacity) p e = absurd (true≢false (sym e))
peerless_stays s (notices.PeerClosed k) p e = absurd (true≢false (sym e))
peerless_stays s notices.Nothing p e = refl

answered : (wanted answer : Answer) (x : Notice) → is_peerless x ≡ true → is_peerless (if_answered wanted answer x) ≡ true
answered wanted answer x e = by ((answer_eq.ghosts).eq answer wanted)
  where
    by : (b : Bool) → is_peerless (if b then x else notices.Nothing) ≡ true
    by true = e
    by false = refl

opened : (k : ℕ) (answer : Answer) → is_peerless (notice_of_opening k answer) ≡ true
opened k answer = elim (opening_cases k answer) [
  | inl is ↦ ap is_peerless is.2
  | inr none ↦ ap is_peerless none
]

visited : (w next : World) (answer : Answer) (o : Option Visit) → is_peerless (visiting w next answer o) ≡ true
visited w next answer None = refl
visited w next answer (Some v) = by (is_taken w next v)
  where
    by : (b : Bool) → is_peerless (if b then notices.TookReadiness v else checking v answer) ≡ true
    by true = refl
    by false = elim (checking_cases v answer) [
      | inl code ↦ ap is_peerless code.2
      | inr none ↦ ap is_peerless none
    ]

ran : (w next : World) (o : Option ℕ) → is_peerless (running w next o notices.Nothing) ≡ true
ran w next None = refl
ran w next (Some d) = refl

-- ---- every kind

-- after a step, the other end of socket s is the one that the notice implies
abbrev Follows : World → ℕ → Step → Outcome → Type 0
Follows w s step o = ComesTo (λ (left : Answer × World). seen_peer left.1 s ≡ peer_after s (notice w step left.0 left.1) (seen_peer w s)) o

stays : (w : World) (step : Step) (s : ℕ) → ComesTo (KeepsPeers w) (outcome w step) → ((a : Answer) (n : World) → is_peerless (notice w step a n) ≡ true) → Follows w s step (outcome w step)
stays w step s kept peerless = record {
  value = λ left is. kept.value left is s ∙ sym (peerless_stays s (notice w step left.0 left.1) (seen_peer w s) (peerless left.0 left.1));
}

sockopen_follows : (w : World) (rc wc s : ℕ) → Follows w s (Step.SockOpen rc wc) (outcome w (Step.SockOpen rc wc))
sockopen_follows w rc wc s =
    ComesTo-then (ComesTo-any (refused_unless (nat_lt (length w.sockets) w.limits.sockets) _)) λ _.
    ComesTo-then (ComesTo-any (sized rc w)) λ _.
    ComesTo-then (ComesTo-any (sized wc w)) λ _.
    ComesTo-ok (push_seen peer_of w.sockets (new_socket rc wc) s (s == length w.sockets) refl)

-- the step that closes socket k's peer
closes : (w : World) (k s : ℕ) (socket : Socket) → slice_get w.sockets k ≡ Some socket → (b : Bool) → (s == k) ≡ b
    → option_map peer_of (slice_get (slice_set w.sockets k (record socket { peer_closed = true })) s) ≡ (if b then option_map closed_peer (seen_peer w s) else seen_peer w s)
closes w k s socket at true e =
    let same : s ≡ k = eqb-true s k e in
    ap (λ j. option_map peer_of (slice_get (slice_set w.sockets k (record socket { peer_closed = true })) j)) same
    ∙ ap (option_map peer_of) (slice_get-set_here w.sockets k socket (record socket { peer_closed = true }) at)
    ∙ sym (ap (λ o. option_map closed_peer (option_map peer_of o)) at)
    ∙ sym (ap (λ j. option_map closed_peer (seen_peer w j)) same)
closes w k s socket at false e =
    elim (slice_get-set_cases w.sockets k socket (record socket { peer_closed = true }) s at) [
      | inl same ↦ absurd (eqb-false s k e same.0)
      | inr other ↦ ap (option_map peer_of) other.1
    ]

peerclose_follows : (w : World) (k s : ℕ) → Follows w s (Step.PeerClose k) (outcome w (Step.PeerClose k))
peerclose_follows w k s =
    ComesTo-bind (ComesTo-ends (Ends-socket_of k w)) λ socket there.
    ComesTo-then (ComesTo-any (refused_if socket.peer_closed _)) λ _.
    ComesTo-ok (closes w k s socket there (s == k) refl)

-- the law for every kind of step
follows : (w : World) (step : Step) (s : ℕ) → Follows w s step (outcome w step)
follows w Step.Spawn s = stays w Step.Spawn s (spawn_peers w) (λ a m. refl)
follows w (Step.Exit g) s = stays w (Step.Exit g) s (exit_peers w g) (λ a m. refl)
follows w (Step.SockOpen rc wc) s = sockopen_follows w rc wc s
follows w (Step.Arrive k bytes) s = stays w (Step.Arrive k bytes) s (arrive_peers w k bytes) (λ a m. refl)
follows w (Step.PeerClose k) s = peerclose_follows w k s
follows w (Step.SysRead g k n) s = stays w (Step.SysRead g k n) s (sysread_peers w g k n) (λ a m. answered answers.Again a (notices.Tried k Read) refl)
follows w (Step.SysWrite g k bytes) s = stays w (Step.SysWrite g k bytes) s (syswrite_peers w g k bytes) (λ a m. answered answers.Again a (notices.Tried k Write) refl)
follows w (Step.Drain k n) s = stays w (Step.Drain k n) s (drain_peers w k n) (λ a m. refl)
follows w (Step.Incref g k) s = stays w (Step.Incref g k) s (incref_peers w g k) (λ a m. answered answers.Yes a (notices.TookReference g k) refl)
follows w (Step.IncrefClose g k) s = stays w (Step.IncrefClose g k) s (increfclose_peers w g k) (λ a m. answered answers.Yes a (notices.TookReference g k) refl)
follows w (Step.Decref g k) s = stays w (Step.Decref g k) s (decref_peers w g k) (λ a m. refl)
follows w (Step.RwLock g k side) s = stays w (Step.RwLock g k side) s (rwlock_peers w g k side) (λ a m. answered answers.Yes a (notices.TookReference g k) refl)
follows w (Step.RwUnlock g k side) s = stays w (Step.RwUnlock g k side) s (rwunlock_peers w g k side) (λ a m. refl)
follows w (Step.Acquire g) s = stays w (Step.Acquire g) s (acquire_peers w g) (λ a m. refl)
follows w (Step.Release g) s = stays w (Step.Release g) s (release_peers w g) (λ a m. refl)
follows w (Step.PollOpen g k) s = stays w (Step.PollOpen g k) s (pollopen_peers w g k) (λ a m. opened k a)
follows w (Step.PollClose g e) s = stays w (Step.PollClose g e) s (pollclose_peers w g e) (λ a m. refl)
follows w (Step.PollReset g e side) s = stays w (Step.PollReset g e side) s (pollreset_peers w g e side) (λ a m. visited w m a (visit w (Step.PollReset g e side)))
follows w (Step.WaitBegin g e side) s = stays w (Step.WaitBegin g e side) s (waitbegin_peers w g e side) (λ a m. visited w m a (visit w (Step.WaitBegin g e side)))
follows w (Step.BlockArm g) s = stays w (Step.BlockArm g) s (blockarm_peers w g) (λ a m. visited w m a (visit w (Step.BlockArm g)))
follows w (Step.BlockCheck g) s = stays w (Step.BlockCheck g) s (blockcheck_peers w g) (λ a m. refl)
follows w (Step.ParkCommit g) s = stays w (Step.ParkCommit g) s (parkcommit_peers w g) (λ a m. refl)
follows w (Step.BlockSwap g) s = stays w (Step.BlockSwap g) s (blockswap_peers w g) (λ a m. visited w m a (visit w (Step.BlockSwap g)))
follows w (Step.WaitCheck g) s = stays w (Step.WaitCheck g) s (waitcheck_peers w g) (λ a m. visited w m a (visit w (Step.WaitCheck g)))
follows w (Step.SetDeadline g e mode x) s = stays w (Step.SetDeadline g e mode x) s (setdeadline_peers w g e mode x) (λ a m. refl)
follows w (Step.Evict g e) s = stays w (Step.Evict g e) s (evict_peers w g e) (λ a m. refl)
follows w (Step.PollEvent e tag mode error) s = stays w (Step.PollEvent e tag mode error) s (pollevent_peers w e tag mode error) (λ a m. answered answers.Done a (notices.Event e mode) refl)
follows w (Step.Tick x) s = stays w (Step.Tick x) s (tick_peers w x) (λ a m. refl)
follows w Step.Pop s = stays w Step.Pop s (pop_peers w) (λ a m. refl)
follows w (Step.Fire i) s = stays w (Step.Fire i) s (fire_peers w i) (λ a m. ran w m (fired_descriptor w (Step.Fire i)))
follows w (Step.CloseWrite g k) s = stays w (Step.CloseWrite g k) s (closewrite_peers w g k) (λ a m. refl)

-- a socket's other end, computed from the notices, is the one in the world
pub peer_is : (r : Recording) (s n : ℕ) → peer r s n ≡ option_map peer_of (slice_get (world_at r n).sockets s)
peer_is r s zero = refl
peer_is r s (suc n) = go (moves r n) (peer_is r s n)
  where
    go : Moves r n → peer r s n ≡ seen_peer (world_at r n) s → peer r s (suc n) ≡ seen_peer (world_at r (suc n)) s
    go (Stays same none) before = ap (λ x. peer_after s x (peer r s n)) none ∙ before ∙ sym (ap (λ w. seen_peer w s) same)
    go (Made step answer next read is leads noticed) before =
        ap (λ x. peer_after s x (peer r s n)) noticed
        ∙ ap (peer_after s (notice (world_at r n) step answer next)) before
        ∙ sym ((follows (world_at r n) step s).value (answer, next) is)
        ∙ sym (ap (λ w. seen_peer w s) leads)
