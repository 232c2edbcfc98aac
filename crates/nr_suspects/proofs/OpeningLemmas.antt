-- The socket for which a descriptor was last opened is the one in its row.
use Rattle.std.proofs.Common.{◌≡◌, ◌≢◌, ℕ, zero, suc, ◌*◌, ◌&&◌, ◌||◌, not, Bool, true, false, length, List, [], ◌∷◌, Option, Some, None, inl, inr, refl, sym, ap, subst, ◌∙◌, true≢false}
use Rattle.std.specs.Prelude.{if◌then◌else◌, ◌==◌, int_le, int_lt, nat_le, nat_lt, option_map, remove, slice_get, slice_set, ℤ}
use Rattle.std.proofs.lemmas.Bool.{eqb-false, eqb-true}
use Rattle.nr_rev.specs.contracts.answer.AnswerPartialEq.TheImpl as answer_eq
use Rattle.nr_rev.specs.declared.answer.Answer.{Answer}
use Rattle.nr_rev.specs.declared.answer.Answer.TheVariants as answers
use Rattle.nr_rev.specs.declared.descriptor.Descriptor.{Descriptor}
use Rattle.nr_rev.specs.declared.descriptor.DescriptorRow.{DescriptorRow}
use Rattle.nr_rev.specs.declared.descriptor.WaitWord.{WaitWord}
use Rattle.nr_rev.specs.declared.descriptor.WaitWord.TheVariants.{Nil, Ready, Wait, Held}
use Rattle.nr_rev.specs.declared.sides.Mode.{Mode}
use Rattle.nr_rev.specs.declared.sides.Side.{Side}
use Rattle.nr_rev.specs.declared.sides.Side.TheVariants.{Read, Write}
use Rattle.nr_rev.specs.declared.step.Step.{Step}
use Rattle.nr_rev.specs.declared.timer.TimerFunction.{TimerFunction}
use Rattle.nr_rev.specs.Descriptor.{Change, and_then, change_by_deadline, change_by_event, change_by_evict, change_by_firing, check, closed, expire, is_combo, is_current, is_expired, is_timed, opened_for, quiet, same_bool, then_if, timer_follows, timer_reset, unblocked, wants_timer, with_deadlines, deadline_from, both_raised}
use Rattle.nr_rev.specs.Lock
use Rattle.nr_rev.specs.Run.{Recording, world_at}
use Rattle.nr_rev.specs.Refusing.{found_or, raised_sequence, refused_if, refused_unless}
use Rattle.nr_rev.specs.Semaphore.{front_of, is_free, released}
use Rattle.nr_rev.specs.Sides.{covers_side, names_side, of_side}
use Rattle.nr_rev.specs.Socket.{room_of}
use Rattle.nr_rev.specs.Step.{Outcome, acquiring_of, armed_of, checking_of, entering_of, idle, may_lock, new_row, open_row_of, owing_of, parking_of, row_of, sized, socket_of, status_of, swapping_of, after_change, after_wakes, armed_by, committed_by, fired_with, outcome, swapped_by, taken, tries_again}
use Rattle.nr_rev.specs.World.{World, is_free_number, is_waited, least_entry}
use Rattle.std.specs.Ordering.{int_eq}
use Rattle.nr_rev.proofs.NumberLemmas.{number_apart}
use Rattle.nr_rev.proofs.ListUpdateLemmas.{slice_get-set_cases, slice_get-set_here, slice_get-set_unseen}
use Rattle.nr_laws.proofs.AspectLemmas.{ComesTo, ComesTo-ok, ComesTo-refused, ComesTo-any, ComesTo-bind, ComesTo-ends, ComesTo-then, ComesTo-either}
use Rattle.nr_laws.proofs.AspectDescriptorStepLemmas.{ComesTo-open_row_of}
use Rattle.nr_laws.proofs.LookupLemmas.{Ends-row_of}
use Rattle.nr_suspects.specs.declared.account.Account.{Account}
use Rattle.nr_suspects.specs.declared.notice.Notice.{Notice}
use Rattle.nr_suspects.specs.declared.notice.Notice.TheVariants as notices
use Rattle.nr_suspects.specs.declared.notice.Visit.{Visit}
use Rattle.nr_suspects.specs.Debts.{account, account_after, newly_opened, noted, socket_at, with_event, with_look, with_taking}
use Rattle.nr_suspects.specs.Notices.{checking, fired_descriptor, if_answered, is_taken, notice, notice_at, notice_of_socket, running, visit, visiting}
use Rattle.nr_suspects.specs.Settings.{after_passing, after_setting}
use Rattle.nr_rev.specs.Sides.{with_side}
use Rattle.nr_suspects.proofs.ListLemmas.{push_seen}
use Rattle.nr_suspects.proofs.NoticeLemmas.{Moves, Made, Stays, checking_cases, moves, socket_cases}

-- ---- steps that leave the descriptors alone

abbrev KeepsDescriptors : World → Answer × World → Type 0
KeepsDescriptors w left = left.1.descriptors ≡ w.descriptors

woken_descriptors : (gs : List ℕ) (w : World) → (after_wakes gs w).descriptors ≡ w.descriptors
woken_descriptors [] w = refl
woken_descriptors (g ∷ gs) w = woken_descriptors gs _

again_descriptors : (s : ℕ) (side : Side) (o : Option ℕ) (w : World) → (tries_again s side o w).descriptors ≡ w.descriptors
again_descriptors s side None w = refl
again_descriptors s side (Some g) w = refl

either_descriptors : (w : World) (b : Bool) (x y : World) → x.descriptors ≡ w.descriptors → y.descriptors ≡ w.descriptors → (if b then x else y).descriptors ≡ w.descriptors
either_descriptors w true x y e f = e
either_descriptors w false x y e f = f

either_left : (w : World) (b : Bool) (x y : Answer × World) → x.1.descriptors ≡ w.descriptors → y.1.descriptors ≡ w.descriptors → (if b then x else y).1.descriptors ≡ w.descriptors
either_left w true x y e f = e
either_left w false x y e f = f

-- ---- steps that leave their sockets alone

-- the socket in the row of descriptor d
abbrev pub row_socket : World → ℕ → Option ℕ
row_socket w d = option_map (λ (row : DescriptorRow). row.descriptor.socket) (slice_get w.descriptors d)

abbrev KeepsRows : World → World → Type 0
KeepsRows w next = (d : ℕ) → row_socket next d ≡ row_socket w d

abbrev Keeps : World → Answer × World → Type 0
Keeps w left = KeepsRows w left.1

by_descriptors : (w : World) (o : Outcome) → ComesTo (KeepsDescriptors w) o → ComesTo (Keeps w) o
by_descriptors w o kept =
    record { value = λ left is d. ap (λ (xs : List DescriptorRow). option_map (λ (row : DescriptorRow). row.descriptor.socket) (slice_get xs d)) (kept.value left is) }

-- changing a row without its socket changes no descriptor's socket
row_set : (w : World) (e : ℕ) (old new : DescriptorRow) → slice_get w.descriptors e ≡ Some old → new.descriptor.socket ≡ old.descriptor.socket → (d : ℕ)
    → option_map (λ (row : DescriptorRow). row.descriptor.socket) (slice_get (slice_set w.descriptors e new) d) ≡ row_socket w d
row_set w e old new at same d = slice_get-set_unseen (option_map (λ (row : DescriptorRow). row.descriptor.socket)) w.descriptors e old new d at (ap Some same)

either_rows : (w : World) (b : Bool) (x y : World) → KeepsRows w x → KeepsRows w y → KeepsRows w (if b then x else y)
either_rows w true x y e f = e
either_rows w false x y e f = f

changed_rows : (e : ℕ) (row : DescriptorRow) (change : Change) (w : World) → slice_get w.descriptors e ≡ Some row → change.descriptor.socket ≡ row.descriptor.socket → ComesTo (KeepsRows w) (after_change e row change w)
changed_rows e row change w at same =
    ComesTo-bind (ComesTo-any _) λ left _.
    ComesTo-ok
    (λ d. ap (λ (xs : List DescriptorRow). option_map (λ (x : DescriptorRow). x.descriptor.socket) (slice_get xs d)) (woken_descriptors change.woken _)
    ∙ row_set w e row (record { descriptor = change.descriptor; timers = left.0 }) at same d)

armed_rows : (g e : ℕ) (side : Side) (word : WaitWord) (row : DescriptorRow) (w : World) → slice_get w.descriptors e ≡ Some row → ComesTo (Keeps w) (armed_by g e side word row w)
armed_rows g e side Nil row w at = ComesTo-ok (row_set w e row _ at refl)
armed_rows g e side Ready row w at = ComesTo-ok (row_set w e row _ at refl)
armed_rows g e side Wait row w at = ComesTo-refused
armed_rows g e side (Held h) row w at = ComesTo-refused

committed_rows : (g e : ℕ) (side : Side) (word : WaitWord) (row : DescriptorRow) (w : World) → slice_get w.descriptors e ≡ Some row → Keeps w (committed_by g e side word row w)
committed_rows g e side Nil row w at = λ d. refl
committed_rows g e side Ready row w at = λ d. refl
committed_rows g e side Wait row w at = row_set w e row _ at refl
committed_rows g e side (Held h) row w at = λ d. refl

swapped_rows : (g e : ℕ) (side : Side) (word : WaitWord) (row : DescriptorRow) (w : World) → slice_get w.descriptors e ≡ Some row → Keeps w (swapped_by g e side word row w)
swapped_rows g e side Nil row w at = row_set w e row _ at refl
swapped_rows g e side Ready row w at = row_set w e row _ at refl
swapped_rows g e side Wait row w at = row_set w e row _ at refl
swapped_rows g e side (Held h) row w at = row_set w e row _ at refl

-- ---- changes of a descriptor leave its socket unchanged

then_if_socket : (first : Change) (b : Bool) (next : Descriptor → Change) → ((x : Descriptor) → (next x).descriptor.socket ≡ x.socket) → (then_if first b next).descriptor.socket ≡ first.descriptor.socket
then_if_socket first true next same = same first.descriptor
then_if_socket first false next same = refl

evict_socket : (x : Descriptor) → ComesTo (λ (change : Change). change.descriptor.socket ≡ x.socket) (change_by_evict x)
evict_socket x =
    ComesTo-then (ComesTo-any (refused_if x.closing _)) λ _.
    ComesTo-bind (ComesTo-any (both_raised x.sequences)) λ sequences _.
    ComesTo-ok refl

event_socket : (mode : Mode) (error : Bool) (x : Descriptor) → (change_by_event mode error x).descriptor.socket ≡ x.socket
event_socket mode error x =
    then_if_socket (then_if (quiet (record x { event_error = error })) (names_side mode Read) (unblocked true Read)) (names_side mode Write) (unblocked true Write) (λ y. refl)
    ∙ then_if_socket (quiet (record x { event_error = error })) (names_side mode Read) (unblocked true Read) (λ y. refl)

reset_or_quiet : (b : Bool) (side : Side) (x : Descriptor) → (if b then timer_reset side x else quiet x).descriptor.socket ≡ x.socket
reset_or_quiet true side x = refl
reset_or_quiet false side x = refl

follows_socket : (side : Side) (old x : Descriptor) → ComesTo (λ (change : Change). change.descriptor.socket ≡ x.socket) (timer_follows side old x)
follows_socket side old x =
    ComesTo-either (not (of_side side x.running)) (ComesTo-ok (reset_or_quiet (wants_timer side x) side x))
    (ComesTo-either (int_eq (of_side side old.deadlines) (of_side side x.deadlines) && same_bool (is_combo old) (is_combo x)) (ComesTo-ok refl)
    (ComesTo-bind (ComesTo-any (raised_sequence (of_side side x.sequences))) λ sequence _. ComesTo-ok refl))

deadline_socket : (clock : ℤ) (mode : Mode) (t : ℤ) (old : Descriptor) → ComesTo (λ (change : Change). change.descriptor.socket ≡ old.socket) (change_by_deadline clock mode t old)
deadline_socket clock mode t old =
    ComesTo-either old.closing (ComesTo-ok refl)
    (ComesTo-bind (follows_socket Read old (with_deadlines mode (deadline_from clock t) old)) λ read reads.
    ComesTo-bind (follows_socket Write old read.descriptor) λ write writes.
    let both : Change = and_then read (λ _. write) in
    ComesTo-ok
    (then_if_socket (then_if both (is_expired Read both.descriptor) (unblocked false Read)) (is_expired Write both.descriptor) (unblocked false Write) (λ y. refl)
    ∙ then_if_socket both (is_expired Read both.descriptor) (unblocked false Read) (λ y. refl)
    ∙ writes ∙ reads))

same_some : (x y : Change) → ◌≡◌ {A = Option Change} (Some x) (Some y) → x ≡ y
same_some x y e = cc

firing_socket : (function : TimerFunction) (sequence : ℕ) (x : Descriptor) → ComesTo (λ (o : Option Change). (change : Change) → o ≡ Some change → change.descriptor.socket ≡ x.socket) (change_by_firing function sequence x)
firing_socket function sequence x =
    ComesTo-either (not (is_current function sequence x)) (ComesTo-ok (λ change e. cc))
    (ComesTo-then (ComesTo-any (refused_unless (is_timed function x) _)) λ _.
    ComesTo-ok
    (λ change e. subst (λ (c : Change). c.descriptor.socket ≡ x.socket) (same_some _ change e)
    (then_if_socket (then_if (quiet x) (covers_side function Read) (expire Read)) (covers_side function Write) (expire Write) (λ y. refl)
    ∙ then_if_socket (quiet x) (covers_side function Read) (expire Read) (λ y. refl))))

fired_rows : (e : ℕ) (row : DescriptorRow) (o : Option Change) (w : World) → slice_get w.descriptors e ≡ Some row → ((change : Change) → o ≡ Some change → change.descriptor.socket ≡ row.descriptor.socket) → ComesTo (Keeps w) (fired_with e row o w)
fired_rows e row None w at same = ComesTo-ok (λ d. refl)
fired_rows e row (Some change) w at same = ComesTo-bind (changed_rows e row change w at (same change refl)) λ next kept. ComesTo-ok kept

-- ---- each kind

closed_socket : (x : Descriptor) → ComesTo (λ (y : Descriptor). y.socket ≡ x.socket) (closed x)
closed_socket x = ComesTo-bind (ComesTo-any (raised_sequence x.fdseq)) λ fdseq _. ComesTo-ok refl

spawn_rows : (w : World) → ComesTo (Keeps w) (outcome w Step.Spawn)
spawn_rows w = by_descriptors w (outcome w Step.Spawn) (ComesTo-then (ComesTo-any (refused_unless (nat_lt (length w.goroutines) w.limits.goroutines) _)) λ _. ComesTo-ok refl)

exit_rows : (w : World) (g : ℕ) → ComesTo (Keeps w) (outcome w (Step.Exit g))
exit_rows w g = by_descriptors w (outcome w (Step.Exit g)) (ComesTo-then (ComesTo-any (idle g w)) λ _. ComesTo-ok refl)

sockopen_rows : (w : World) (rc : ℕ) (wc : ℕ) → ComesTo (Keeps w) (outcome w (Step.SockOpen rc wc))
sockopen_rows w rc wc = by_descriptors w (outcome w (Step.SockOpen rc wc)) (ComesTo-then (ComesTo-any (refused_unless (nat_lt (length w.sockets) w.limits.sockets) _)) λ _. ComesTo-then (ComesTo-any (sized rc w)) λ _. ComesTo-then (ComesTo-any (sized wc w)) λ _. ComesTo-ok refl)

arrive_rows : (w : World) (k : ℕ) (bytes : List ℕ) → ComesTo (Keeps w) (outcome w (Step.Arrive k bytes))
arrive_rows w k bytes = by_descriptors w (outcome w (Step.Arrive k bytes)) (ComesTo-bind (ComesTo-any (socket_of k w)) λ socket _. ComesTo-then (ComesTo-any (refused_if (length bytes == 0) _)) λ _. ComesTo-then (ComesTo-any (refused_if socket.peer_closed _)) λ _. ComesTo-then (ComesTo-any (refused_unless (nat_le (length bytes) (room_of socket.buffers.read)) _)) λ _. ComesTo-ok refl)

peerclose_rows : (w : World) (k : ℕ) → ComesTo (Keeps w) (outcome w (Step.PeerClose k))
peerclose_rows w k = by_descriptors w (outcome w (Step.PeerClose k)) (ComesTo-bind (ComesTo-any (socket_of k w)) λ socket _. ComesTo-then (ComesTo-any (refused_if socket.peer_closed _)) λ _. ComesTo-ok refl)

sysread_rows : (w : World) (g : ℕ) (k : ℕ) (n : ℕ) → ComesTo (Keeps w) (outcome w (Step.SysRead g k n))
sysread_rows w g k n = by_descriptors w (outcome w (Step.SysRead g k n)) (ComesTo-then (ComesTo-any (idle g w)) λ _. ComesTo-bind (ComesTo-any (socket_of k w)) λ socket _. ComesTo-then (ComesTo-any (sized n w)) λ _. ComesTo-ok refl)

syswrite_rows : (w : World) (g : ℕ) (k : ℕ) (bytes : List ℕ) → ComesTo (Keeps w) (outcome w (Step.SysWrite g k bytes))
syswrite_rows w g k bytes = by_descriptors w (outcome w (Step.SysWrite g k bytes)) (ComesTo-then (ComesTo-any (idle g w)) λ _. ComesTo-bind (ComesTo-any (socket_of k w)) λ socket _. ComesTo-then (ComesTo-any (refused_if (length bytes == 0) _)) λ _. ComesTo-ok refl)

drain_rows : (w : World) (k : ℕ) (n : ℕ) → ComesTo (Keeps w) (outcome w (Step.Drain k n))
drain_rows w k n = by_descriptors w (outcome w (Step.Drain k n)) (ComesTo-bind (ComesTo-any (socket_of k w)) λ socket _. ComesTo-then (ComesTo-any (refused_if (n == 0) _)) λ _. ComesTo-then (ComesTo-any (refused_if (nat_lt (length socket.buffers.write.bytes) n) _)) λ _. ComesTo-ok refl)

incref_rows : (w : World) (g : ℕ) (k : ℕ) → ComesTo (Keeps w) (outcome w (Step.Incref g k))
incref_rows w g k = by_descriptors w (outcome w (Step.Incref g k)) (ComesTo-then (ComesTo-any (idle g w)) λ _. ComesTo-bind (ComesTo-any (socket_of k w)) λ socket _. ComesTo-bind (ComesTo-any (Lock.incref socket.lock)) λ left _. ComesTo-ok refl)

increfclose_rows : (w : World) (g : ℕ) (k : ℕ) → ComesTo (Keeps w) (outcome w (Step.IncrefClose g k))
increfclose_rows w g k = by_descriptors w (outcome w (Step.IncrefClose g k)) (ComesTo-then (ComesTo-any (idle g w)) λ _. ComesTo-bind (ComesTo-any (socket_of k w)) λ socket _. ComesTo-bind (ComesTo-any (Lock.incref_close socket.lock)) λ left _. ComesTo-ok refl)

decref_rows : (w : World) (g : ℕ) (k : ℕ) → ComesTo (Keeps w) (outcome w (Step.Decref g k))
decref_rows w g k = by_descriptors w (outcome w (Step.Decref g k)) (ComesTo-then (ComesTo-any (idle g w)) λ _. ComesTo-bind (ComesTo-any (socket_of k w)) λ socket _. ComesTo-bind (ComesTo-any (Lock.decref socket.lock)) λ left _. ComesTo-ok refl)

rwlock_rows : (w : World) (g : ℕ) (k : ℕ) (s : Side) → ComesTo (Keeps w) (outcome w (Step.RwLock g k s))
rwlock_rows w g k s = by_descriptors w (outcome w (Step.RwLock g k s)) (ComesTo-bind (ComesTo-any (status_of g w)) λ status _. ComesTo-then (ComesTo-any (refused_unless (may_lock k s status) _)) λ _. ComesTo-bind (ComesTo-any (socket_of k w)) λ socket _. ComesTo-bind (ComesTo-any (Lock.rw_lock s socket.lock)) λ left _. ComesTo-ok refl)

rwunlock_rows : (w : World) (g : ℕ) (k : ℕ) (s : Side) → ComesTo (Keeps w) (outcome w (Step.RwUnlock g k s))
rwunlock_rows w g k s = by_descriptors w (outcome w (Step.RwUnlock g k s)) (ComesTo-then (ComesTo-any (idle g w)) λ _. ComesTo-bind (ComesTo-any (socket_of k w)) λ socket _. ComesTo-bind (ComesTo-any (Lock.rw_unlock s socket.lock)) λ left _. ComesTo-ok refl)

acquire_rows : (w : World) (g : ℕ) → ComesTo (Keeps w) (outcome w (Step.Acquire g))
acquire_rows w g = by_descriptors w (outcome w (Step.Acquire g)) (ComesTo-bind (ComesTo-any (status_of g w)) λ status _. ComesTo-bind (ComesTo-any (acquiring_of status)) λ place _. ComesTo-bind (ComesTo-any (socket_of place.0 w)) λ socket _. ComesTo-ok (either_left w (is_free (of_side place.1 socket.semaphores)) _ _ refl refl))

release_rows : (w : World) (g : ℕ) → ComesTo (Keeps w) (outcome w (Step.Release g))
release_rows w g = by_descriptors w (outcome w (Step.Release g)) (ComesTo-bind (ComesTo-any (status_of g w)) λ status _. ComesTo-bind (ComesTo-any (owing_of status)) λ debt _. ComesTo-bind (ComesTo-any (socket_of debt.0 w)) λ socket _. ComesTo-bind (ComesTo-any (released (of_side (if nat_lt 0 debt.1.read then Read else Write) socket.semaphores))) λ left _. ComesTo-ok (again_descriptors debt.0 (if nat_lt 0 debt.1.read then Read else Write) (front_of (of_side (if nat_lt 0 debt.1.read then Read else Write) socket.semaphores)) _))

pollclose_rows : (w : World) (g : ℕ) (e : ℕ) → ComesTo (Keeps w) (outcome w (Step.PollClose g e))
pollclose_rows w g e = ComesTo-then (ComesTo-any (idle g w)) λ _. ComesTo-bind (ComesTo-open_row_of e w) λ row at. ComesTo-then (ComesTo-any (refused_unless row.descriptor.closing _)) λ _. ComesTo-then (ComesTo-any (refused_if (is_waited e Read w.goroutines || is_waited e Write w.goroutines) _)) λ _. ComesTo-bind (closed_socket row.descriptor) λ descriptor same. ComesTo-ok (row_set w e row _ at same)

pollreset_rows : (w : World) (g : ℕ) (e : ℕ) (s : Side) → ComesTo (Keeps w) (outcome w (Step.PollReset g e s))
pollreset_rows w g e s = ComesTo-then (ComesTo-any (idle g w)) λ _. ComesTo-bind (ComesTo-open_row_of e w) λ row at. ComesTo-then (ComesTo-any (refused_if ((check s row.descriptor == 0) && is_waited e s w.goroutines) _)) λ _. ComesTo-ok (either_rows w (check s row.descriptor == 0) _ w (row_set w e row _ at refl) (λ d. refl))

waitbegin_rows : (w : World) (g : ℕ) (e : ℕ) (s : Side) → ComesTo (Keeps w) (outcome w (Step.WaitBegin g e s))
waitbegin_rows w g e s = by_descriptors w (outcome w (Step.WaitBegin g e s)) (ComesTo-then (ComesTo-any (idle g w)) λ _. ComesTo-bind (ComesTo-any (open_row_of e w)) λ row _. ComesTo-then (ComesTo-any (refused_if ((check s row.descriptor == 0) && is_waited e s w.goroutines) _)) λ _. ComesTo-ok (either_descriptors w (check s row.descriptor == 0) _ w refl refl))

blockarm_rows : (w : World) (g : ℕ) → ComesTo (Keeps w) (outcome w (Step.BlockArm g))
blockarm_rows w g = ComesTo-bind (ComesTo-any (status_of g w)) λ status _. ComesTo-bind (ComesTo-any (entering_of status)) λ place _. ComesTo-bind (ComesTo-ends (Ends-row_of place.0 w)) λ row at. armed_rows g place.0 place.1 (of_side place.1 row.descriptor.words) row w at

blockcheck_rows : (w : World) (g : ℕ) → ComesTo (Keeps w) (outcome w (Step.BlockCheck g))
blockcheck_rows w g = by_descriptors w (outcome w (Step.BlockCheck g)) (ComesTo-bind (ComesTo-any (status_of g w)) λ status _. ComesTo-bind (ComesTo-any (armed_of status)) λ place _. ComesTo-bind (ComesTo-any (row_of place.0 w)) λ row _. ComesTo-ok refl)

parkcommit_rows : (w : World) (g : ℕ) → ComesTo (Keeps w) (outcome w (Step.ParkCommit g))
parkcommit_rows w g = ComesTo-bind (ComesTo-any (status_of g w)) λ status _. ComesTo-bind (ComesTo-any (parking_of status)) λ place _. ComesTo-bind (ComesTo-ends (Ends-row_of place.0 w)) λ row at. ComesTo-ok (committed_rows g place.0 place.1 (of_side place.1 row.descriptor.words) row w at)

blockswap_rows : (w : World) (g : ℕ) → ComesTo (Keeps w) (outcome w (Step.BlockSwap g))
blockswap_rows w g = ComesTo-bind (ComesTo-any (status_of g w)) λ status _. ComesTo-bind (ComesTo-any (swapping_of status)) λ place _. ComesTo-bind (ComesTo-ends (Ends-row_of place.0 w)) λ row at. ComesTo-ok (swapped_rows g place.0 place.1 (of_side place.1 row.descriptor.words) row w at)

waitcheck_rows : (w : World) (g : ℕ) → ComesTo (Keeps w) (outcome w (Step.WaitCheck g))
waitcheck_rows w g = by_descriptors w (outcome w (Step.WaitCheck g)) (ComesTo-bind (ComesTo-any (status_of g w)) λ status _. ComesTo-bind (ComesTo-any (checking_of status)) λ place _. ComesTo-bind (ComesTo-any (row_of place.0 w)) λ row _. ComesTo-ok refl)

setdeadline_rows : (w : World) (g : ℕ) (e : ℕ) (mode : Mode) (x : ℤ) → ComesTo (Keeps w) (outcome w (Step.SetDeadline g e mode x))
setdeadline_rows w g e mode x = ComesTo-then (ComesTo-any (idle g w)) λ _. ComesTo-bind (ComesTo-open_row_of e w) λ row at. ComesTo-bind (deadline_socket w.clock mode x row.descriptor) λ change same. ComesTo-bind (changed_rows e row change w at same) λ next kept. ComesTo-ok kept

evict_rows : (w : World) (g : ℕ) (e : ℕ) → ComesTo (Keeps w) (outcome w (Step.Evict g e))
evict_rows w g e = ComesTo-then (ComesTo-any (idle g w)) λ _. ComesTo-bind (ComesTo-open_row_of e w) λ row at. ComesTo-bind (evict_socket row.descriptor) λ change same. ComesTo-bind (changed_rows e row change w at same) λ next kept. ComesTo-ok kept

pollevent_rows : (w : World) (e : ℕ) (tag : ℕ) (mode : Mode) (error : Bool) → ComesTo (Keeps w) (outcome w (Step.PollEvent e tag mode error))
pollevent_rows w e tag mode error = ComesTo-bind (ComesTo-ends (Ends-row_of e w)) λ row at. ComesTo-either (is_free_number e w.free || not (tag == row.descriptor.fdseq)) (ComesTo-ok (λ d. refl)) (ComesTo-bind (changed_rows e row (change_by_event mode error row.descriptor) w at (event_socket mode error row.descriptor)) λ next kept. ComesTo-ok kept)

tick_rows : (w : World) (x : ℤ) → ComesTo (Keeps w) (outcome w (Step.Tick x))
tick_rows w x = by_descriptors w (outcome w (Step.Tick x)) (ComesTo-then (ComesTo-any (refused_if (int_lt x w.clock) _)) λ _. ComesTo-ok refl)

pop_rows : (w : World) → ComesTo (Keeps w) (outcome w Step.Pop)
pop_rows w = ComesTo-bind (ComesTo-any (found_or (least_entry w) _)) λ entry _. ComesTo-then (ComesTo-any (refused_unless (int_le entry.timer.due w.clock) _)) λ _. ComesTo-then (ComesTo-any (refused_unless (nat_lt (length w.firings) (2 * w.limits.descriptors)) _)) λ _. ComesTo-bind (ComesTo-ends (Ends-row_of entry.descriptor w)) λ row at. ComesTo-ok (row_set w entry.descriptor row (record row { timers = with_side entry.side None row.timers }) at refl)

fire_rows : (w : World) (i : ℕ) → ComesTo (Keeps w) (outcome w (Step.Fire i))
fire_rows w i = ComesTo-bind (ComesTo-any (found_or (slice_get w.firings i) _)) λ entry _. ComesTo-bind (ComesTo-ends (Ends-row_of entry.descriptor w)) λ row at. ComesTo-bind (firing_socket entry.timer.function entry.timer.sequence row.descriptor) λ change same. fired_rows entry.descriptor row change (record w { firings = remove w.firings i }) at same

closewrite_rows : (w : World) (g : ℕ) (k : ℕ) → ComesTo (Keeps w) (outcome w (Step.CloseWrite g k))
closewrite_rows w g k = by_descriptors w (outcome w (Step.CloseWrite g k)) (ComesTo-then (ComesTo-any (idle g w)) λ _. ComesTo-bind (ComesTo-any (socket_of k w)) λ socket _. ComesTo-ok refl)

-- ---- the notices of openings

-- true if the notice opens no descriptor
abbrev opens_none : Notice → Bool
opens_none (notices.Opened d s) = false
opens_none x = true

-- the socket for which descriptor d was last opened, after a notice
abbrev socket_after : ℕ → Notice → Option ℕ → Option ℕ
socket_after d (notices.Opened e s) o = if d == e then Some s else o
socket_after d x o = o

none_stays : (d : ℕ) (x : Notice) (o : Option ℕ) → opens_none x ≡ true → socket_after d x o ≡ o
none_stays d (notices.Opened e s) o none = absurd (true≢false (sym none))
none_stays d (notices.Event e mode) o none = refl
none_stays d (notices.Tried k side) o none = refl
none_stays d (notices.TookReadiness v) o none = refl
none_stays d (notices.Checked v code) o none = refl
none_stays d (notices.SetDeadline g e mode) o none = refl
none_stays d (notices.PassedDeadline e passings) o none = refl
none_stays d (notices.TookReference g k) o none = refl
none_stays d (notices.GaveReference g k) o none = refl
none_stays d (notices.SocketOpened k capacity) o none = refl
none_stays d (notices.PeerClosed k) o none = refl
none_stays d notices.Nothing o none = refl

answered : (wanted answer : Answer) (x : Notice) → opens_none x ≡ true → opens_none (if_answered wanted answer x) ≡ true
answered wanted answer x e = by ((answer_eq.ghosts).eq answer wanted)
  where
    by : (b : Bool) → opens_none (if b then x else notices.Nothing) ≡ true
    by true = e
    by false = refl

opened_socket : (capacity : ℕ) (answer : Answer) → opens_none (notice_of_socket capacity answer) ≡ true
opened_socket capacity answer = elim (socket_cases capacity answer) [
  | inl is ↦ ap opens_none is.2
  | inr none ↦ ap opens_none none
]

visited : (w next : World) (answer : Answer) (o : Option Visit) → opens_none (visiting w next answer o) ≡ true
visited w next answer None = refl
visited w next answer (Some v) = by (is_taken w next v)
  where
    by : (b : Bool) → opens_none (if b then notices.TookReadiness v else checking v answer) ≡ true
    by true = refl
    by false = elim (checking_cases v answer) [
      | inl code ↦ ap opens_none code.2
      | inr none ↦ ap opens_none none
    ]

ran : (w next : World) (o : Option ℕ) → opens_none (running w next o notices.Nothing) ≡ true
ran w next None = refl
ran w next (Some d) = refl

-- ---- every kind

-- after a step, descriptor d has the socket that the notice implies
abbrev Follows : World → ℕ → Step → Outcome → Type 0
Follows w d step o = ComesTo (λ (left : Answer × World). row_socket left.1 d ≡ socket_after d (notice w step left.0 left.1) (row_socket w d)) o

stays : (w : World) (step : Step) (d : ℕ) → ComesTo (Keeps w) (outcome w step) → ((a : Answer) (n : World) → opens_none (notice w step a n) ≡ true) → Follows w d step (outcome w step)
stays w step d kept none = record {
  value = λ left is. kept.value left is d ∙ sym (none_stays d (notice w step left.0 left.1) (row_socket w d) (none left.0 left.1));
}

-- the new row is at the place that was taken, and the other rows are unchanged
record IsTaken (w : World) (place : ℕ × World) : Type 0 where
  others : (d : ℕ) → d ≢ place.0 → row_socket place.1 d ≡ row_socket w d

taken_place : (free : List ℕ) (w : World) → ComesTo (IsTaken w) (taken free w)
taken_place (e ∷ free) w = ComesTo-ok (record { others = λ d apart. refl })
taken_place [] w =
    ComesTo-then (ComesTo-any (refused_unless (nat_lt (length w.descriptors) w.limits.descriptors) _)) λ _.
    ComesTo-ok
    (record {
      others = λ d apart. push_seen (λ (row : DescriptorRow). row.descriptor.socket) w.descriptors new_row d false (number_apart d (length w.descriptors) apart);
    })

-- an opened descriptor has this socket
opened_socket_is : (s : ℕ) (x : Descriptor) → ComesTo (λ (y : Descriptor). y.socket ≡ s) (opened_for s x)
opened_socket_is s x = ComesTo-bind (ComesTo-any (both_raised x.sequences)) λ sequences _. ComesTo-ok refl

opens : (w taken_world : World) (e d s : ℕ) (row new : DescriptorRow) → slice_get taken_world.descriptors e ≡ Some row → new.descriptor.socket ≡ s → IsTaken w (e, taken_world) → (b : Bool) → (d == e) ≡ b
    → option_map (λ (x : DescriptorRow). x.descriptor.socket) (slice_get (slice_set taken_world.descriptors e new) d) ≡ (if b then Some s else row_socket w d)
opens w taken_world e d s row new at is place true same =
    ap (λ j. option_map (λ (x : DescriptorRow). x.descriptor.socket) (slice_get (slice_set taken_world.descriptors e new) j)) (eqb-true d e same)
    ∙ ap (option_map (λ (x : DescriptorRow). x.descriptor.socket)) (slice_get-set_here taken_world.descriptors e row new at)
    ∙ ap Some is
opens w taken_world e d s row new at is place false apart =
    elim (slice_get-set_cases taken_world.descriptors e row new d at) [
      | inl same ↦ absurd (eqb-false d e apart same.0)
      | inr other ↦ ap (option_map (λ (x : DescriptorRow). x.descriptor.socket)) other.1 ∙ place.others d (eqb-false d e apart)
    ]

pollopen_follows : (w : World) (g s d : ℕ) → Follows w d (Step.PollOpen g s) (outcome w (Step.PollOpen g s))
pollopen_follows w g s d =
    ComesTo-then (ComesTo-any (idle g w)) λ _.
    ComesTo-bind (ComesTo-any (socket_of s w)) λ _ _.
    ComesTo-bind (taken_place w.free w) λ place was.
    ComesTo-bind (ComesTo-ends (Ends-row_of place.0 place.1)) λ row at.
    ComesTo-bind (opened_socket_is s row.descriptor) λ descriptor is.
    ComesTo-ok (opens w place.1 place.0 d s row (record row { descriptor = descriptor }) at is was (d == place.0) refl)

-- the law for every kind of step
follows : (w : World) (step : Step) (d : ℕ) → Follows w d step (outcome w step)
follows w Step.Spawn d = stays w Step.Spawn d (spawn_rows w) (λ a m. refl)
follows w (Step.Exit g) d = stays w (Step.Exit g) d (exit_rows w g) (λ a m. refl)
follows w (Step.SockOpen rc wc) d = stays w (Step.SockOpen rc wc) d (sockopen_rows w rc wc) (λ a m. opened_socket wc a)
follows w (Step.Arrive k bytes) d = stays w (Step.Arrive k bytes) d (arrive_rows w k bytes) (λ a m. refl)
follows w (Step.PeerClose k) d = stays w (Step.PeerClose k) d (peerclose_rows w k) (λ a m. refl)
follows w (Step.SysRead g k n) d = stays w (Step.SysRead g k n) d (sysread_rows w g k n) (λ a m. answered answers.Again a (notices.Tried k Read) refl)
follows w (Step.SysWrite g k bytes) d = stays w (Step.SysWrite g k bytes) d (syswrite_rows w g k bytes) (λ a m. answered answers.Again a (notices.Tried k Write) refl)
follows w (Step.Drain k n) d = stays w (Step.Drain k n) d (drain_rows w k n) (λ a m. refl)
follows w (Step.Incref g k) d = stays w (Step.Incref g k) d (incref_rows w g k) (λ a m. answered answers.Yes a (notices.TookReference g k) refl)
follows w (Step.IncrefClose g k) d = stays w (Step.IncrefClose g k) d (increfclose_rows w g k) (λ a m. answered answers.Yes a (notices.TookReference g k) refl)
follows w (Step.Decref g k) d = stays w (Step.Decref g k) d (decref_rows w g k) (λ a m. refl)
follows w (Step.RwLock g k side) d = stays w (Step.RwLock g k side) d (rwlock_rows w g k side) (λ a m. answered answers.Yes a (notices.TookReference g k) refl)
follows w (Step.RwUnlock g k side) d = stays w (Step.RwUnlock g k side) d (rwunlock_rows w g k side) (λ a m. refl)
follows w (Step.Acquire g) d = stays w (Step.Acquire g) d (acquire_rows w g) (λ a m. refl)
follows w (Step.Release g) d = stays w (Step.Release g) d (release_rows w g) (λ a m. refl)
follows w (Step.PollOpen g k) d = pollopen_follows w g k d
follows w (Step.PollClose g e) d = stays w (Step.PollClose g e) d (pollclose_rows w g e) (λ a m. refl)
follows w (Step.PollReset g e side) d = stays w (Step.PollReset g e side) d (pollreset_rows w g e side) (λ a m. visited w m a (visit w (Step.PollReset g e side)))
follows w (Step.WaitBegin g e side) d = stays w (Step.WaitBegin g e side) d (waitbegin_rows w g e side) (λ a m. visited w m a (visit w (Step.WaitBegin g e side)))
follows w (Step.BlockArm g) d = stays w (Step.BlockArm g) d (blockarm_rows w g) (λ a m. visited w m a (visit w (Step.BlockArm g)))
follows w (Step.BlockCheck g) d = stays w (Step.BlockCheck g) d (blockcheck_rows w g) (λ a m. refl)
follows w (Step.ParkCommit g) d = stays w (Step.ParkCommit g) d (parkcommit_rows w g) (λ a m. refl)
follows w (Step.BlockSwap g) d = stays w (Step.BlockSwap g) d (blockswap_rows w g) (λ a m. visited w m a (visit w (Step.BlockSwap g)))
follows w (Step.WaitCheck g) d = stays w (Step.WaitCheck g) d (waitcheck_rows w g) (λ a m. visited w m a (visit w (Step.WaitCheck g)))
follows w (Step.SetDeadline g e mode x) d = stays w (Step.SetDeadline g e mode x) d (setdeadline_rows w g e mode x) (λ a m. refl)
follows w (Step.Evict g e) d = stays w (Step.Evict g e) d (evict_rows w g e) (λ a m. refl)
follows w (Step.PollEvent e tag mode error) d = stays w (Step.PollEvent e tag mode error) d (pollevent_rows w e tag mode error) (λ a m. answered answers.Done a (notices.Event e mode) refl)
follows w (Step.Tick x) d = stays w (Step.Tick x) d (tick_rows w x) (λ a m. refl)
follows w Step.Pop d = stays w Step.Pop d (pop_rows w) (λ a m. refl)
follows w (Step.Fire i) d = stays w (Step.Fire i) d (fire_rows w i) (λ a m. ran w m (fired_descriptor w (Step.Fire i)))
follows w (Step.CloseWrite g k) d = stays w (Step.CloseWrite g k) d (closewrite_rows w g k) (λ a m. refl)

-- ---- the socket in the account

mapped : (a : Option Account) (f : Account → Account) → ((y : Account) → (f y).socket ≡ y.socket) → option_map (λ (y : Account). y.socket) (option_map f a) ≡ option_map (λ (y : Account). y.socket) a
mapped None f same = refl
mapped (Some y) f same = ap Some (same y)

if_socket : (b : Bool) (x y : Account) → x.socket ≡ y.socket → (if b then x else y).socket ≡ y.socket
if_socket true x y e = e
if_socket false x y e = refl

opened_account : (b : Bool) (s : ℕ) (a : Option Account) → option_map (λ (y : Account). y.socket) (if b then Some (newly_opened s) else a) ≡ (if b then Some s else option_map (λ (y : Account). y.socket) a)
opened_account true s a = refl
opened_account false s a = refl

kept_socket : (n d : ℕ) (x : Notice) (a : Option Account) → option_map (λ (y : Account). y.socket) (account_after n d x a) ≡ socket_after d x (option_map (λ (y : Account). y.socket) a)
kept_socket n d (notices.Opened e s) a = opened_account (d == e) s a
kept_socket n d (notices.Event e mode) a = mapped a (noted n d (notices.Event e mode)) (λ y. if_socket (d == e) (with_event n mode y) y refl)
kept_socket n d (notices.Tried s side) a = mapped a (noted n d (notices.Tried s side)) (λ y. if_socket (y.socket == s) (record y { debts = with_side side None y.debts }) y refl)
kept_socket n d (notices.TookReadiness v) a = mapped a (noted n d (notices.TookReadiness v)) (λ y. if_socket (d == v.descriptor) (with_taking n v y) y refl)
kept_socket n d (notices.Checked v code) a = mapped a (noted n d (notices.Checked v code)) (λ y. if_socket (d == v.descriptor) (with_look v y) y refl)
kept_socket n d (notices.SetDeadline g e mode) a = mapped a (noted n d (notices.SetDeadline g e mode)) (λ y. if_socket (d == e) (record y { deadlines = after_setting n g mode y.deadlines }) y refl)
kept_socket n d (notices.PassedDeadline e passings) a = mapped a (noted n d (notices.PassedDeadline e passings)) (λ y. if_socket (d == e) (record y { deadlines = after_passing passings y.deadlines }) y refl)
kept_socket n d (notices.TookReference g s) a = mapped a (noted n d (notices.TookReference g s)) (λ y. refl)
kept_socket n d (notices.GaveReference g s) a = mapped a (noted n d (notices.GaveReference g s)) (λ y. refl)
kept_socket n d (notices.SocketOpened s capacity) a = mapped a (noted n d (notices.SocketOpened s capacity)) (λ y. refl)
kept_socket n d (notices.PeerClosed s) a = mapped a (noted n d (notices.PeerClosed s)) (λ y. refl)
kept_socket n d notices.Nothing a = mapped a (noted n d notices.Nothing) (λ y. refl)

-- the socket for which a descriptor was last opened is the socket in the descriptor's row
pub socket_is : (r : Recording) (d n : ℕ) → socket_at r d n ≡ option_map (λ (row : DescriptorRow). row.descriptor.socket) (slice_get (world_at r n).descriptors d)
socket_is r d zero = refl
socket_is r d (suc n) = go (moves r n) (socket_is r d n)
  where
    go : Moves r n → socket_at r d n ≡ row_socket (world_at r n) d → socket_at r d (suc n) ≡ row_socket (world_at r (suc n)) d
    go (Stays same none) before =
        kept_socket (suc n) d (notice_at r n) (account r d n)
        ∙ ap (λ x. socket_after d x (socket_at r d n)) none ∙ before ∙ sym (ap (λ w. row_socket w d) same)
    go (Made step answer next read is leads noticed) before =
        kept_socket (suc n) d (notice_at r n) (account r d n)
        ∙ ap (λ x. socket_after d x (socket_at r d n)) noticed
        ∙ ap (socket_after d (notice (world_at r n) step answer next)) before
        ∙ sym ((follows (world_at r n) step d).value (answer, next) is)
        ∙ sym (ap (λ w. row_socket w d) leads)
