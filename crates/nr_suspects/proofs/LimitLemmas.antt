-- The limits of a recording's worlds are those of its header.
use Rattle.std.proofs.Common.{◌≡◌, ℕ, ◌&&◌, ◌||◌, not, ◌*◌, length, List, [], ◌∷◌, Option, Some, None, Ok, Err, refl, ◌∙◌, Bool, true, false}
use Rattle.std.specs.Prelude.{if◌then◌else◌, ◌==◌, int_le, int_lt, nat_le, nat_lt, remove, slice_get, take}
use Rattle.nr_rev.specs.declared.answer.Answer.{Answer}
use Rattle.nr_rev.specs.declared.descriptor.DescriptorRow.{DescriptorRow}
use Rattle.nr_rev.specs.declared.descriptor.WaitWord.{WaitWord}
use Rattle.nr_rev.specs.declared.descriptor.WaitWord.TheVariants.{Nil, Ready, Wait, Held}
use Rattle.nr_rev.specs.declared.sides.Side.{Side}
use Rattle.nr_rev.specs.declared.step.Step.{Step}
use Rattle.nr_rev.specs.declared.sides.Side.TheVariants.{Read, Write}
use Rattle.nr_rev.specs.Descriptor.{Change, change_by_deadline, change_by_event, change_by_evict, change_by_firing, check, closed, opened_for}
use Rattle.nr_rev.specs.Lock
use Rattle.nr_rev.specs.Run.{Recording, next_of, world_after, world_at}
use Rattle.nr_rev.specs.Refusing.{found_or, refused_if, refused_unless}
use Rattle.nr_rev.specs.Semaphore.{front_of, is_free, released}
use Rattle.nr_rev.specs.Sides.{of_side}
use Rattle.nr_rev.specs.Socket.{room_of}
use Rattle.nr_rev.specs.Step.{Outcome, acquiring_of, armed_of, checking_of, entering_of, idle, may_lock, open_row_of, owing_of, parking_of, row_of, sized, socket_of, status_of, swapping_of, after_change, after_wakes, armed_by, committed_by, fired_with, outcome, swapped_by, taken, tries_again}
use Rattle.nr_rev.specs.World.{World, empty_world, is_free_number, is_waited, least_entry}
use Rattle.nr_laws.proofs.AspectLemmas.{ComesTo, ComesTo-ok, ComesTo-refused, ComesTo-any, ComesTo-bind, ComesTo-then, ComesTo-either}

-- the step leaves the limits unchanged
abbrev KeepsLimits : World → Answer × World → Type 0
KeepsLimits w left = left.1.limits ≡ w.limits

woken_limits : (gs : List ℕ) (w : World) → (after_wakes gs w).limits ≡ w.limits
woken_limits [] w = refl
woken_limits (g ∷ gs) w = woken_limits gs _

changed_limits : (d : ℕ) (row : DescriptorRow) (change : Change) (w : World) → ComesTo (λ (next : World). next.limits ≡ w.limits) (after_change d row change w)
changed_limits d row change w = ComesTo-bind (ComesTo-any _) λ left _. ComesTo-ok (woken_limits change.woken _)

taken_limits : (free : List ℕ) (w : World) → ComesTo (λ (place : ℕ × World). place.1.limits ≡ w.limits) (taken free w)
taken_limits (d ∷ free) w = ComesTo-ok refl
taken_limits [] w = ComesTo-then (ComesTo-any _) λ _. ComesTo-ok refl

again_limits : (s : ℕ) (side : Side) (o : Option ℕ) (w : World) → (tries_again s side o w).limits ≡ w.limits
again_limits s side None w = refl
again_limits s side (Some g) w = refl

either_limits : (w : World) (b : Bool) (x y : World) → x.limits ≡ w.limits → y.limits ≡ w.limits → (if b then x else y).limits ≡ w.limits
either_limits w true x y e f = e
either_limits w false x y e f = f

either_left : (w : World) (b : Bool) (x y : Answer × World) → x.1.limits ≡ w.limits → y.1.limits ≡ w.limits → (if b then x else y).1.limits ≡ w.limits
either_left w true x y e f = e
either_left w false x y e f = f

armed_limits : (g d : ℕ) (side : Side) (word : WaitWord) (row : DescriptorRow) (w : World) → ComesTo (KeepsLimits w) (armed_by g d side word row w)
armed_limits g d side Nil row w = ComesTo-ok refl
armed_limits g d side Ready row w = ComesTo-ok refl
armed_limits g d side Wait row w = ComesTo-refused
armed_limits g d side (Held h) row w = ComesTo-refused

committed_limits : (g d : ℕ) (side : Side) (word : WaitWord) (row : DescriptorRow) (w : World) → KeepsLimits w (committed_by g d side word row w)
committed_limits g d side Nil row w = refl
committed_limits g d side Ready row w = refl
committed_limits g d side Wait row w = refl
committed_limits g d side (Held h) row w = refl

swapped_limits : (g d : ℕ) (side : Side) (word : WaitWord) (row : DescriptorRow) (w : World) → KeepsLimits w (swapped_by g d side word row w)
swapped_limits g d side Nil row w = refl
swapped_limits g d side Ready row w = refl
swapped_limits g d side Wait row w = refl
swapped_limits g d side (Held h) row w = refl

fired_limits : (d : ℕ) (row : DescriptorRow) (change : Option Change) (w : World) → ComesTo (KeepsLimits w) (fired_with d row change w)
fired_limits d row None w = ComesTo-ok refl
fired_limits d row (Some change) w = ComesTo-bind (changed_limits d row change w) λ next same. ComesTo-ok same

-- every kind of step leaves the limits unchanged
limits_kept : (w : World) (step : Step) → ComesTo (KeepsLimits w) (outcome w step)
limits_kept w Step.Spawn = ComesTo-then (ComesTo-any (refused_unless (nat_lt (length w.goroutines) w.limits.goroutines) _)) λ _. ComesTo-ok refl
limits_kept w (Step.Exit g) = ComesTo-then (ComesTo-any (idle g w)) λ _. ComesTo-ok refl
limits_kept w (Step.SockOpen rc wc) = ComesTo-then (ComesTo-any (refused_unless (nat_lt (length w.sockets) w.limits.sockets) _)) λ _. ComesTo-then (ComesTo-any (sized rc w)) λ _. ComesTo-then (ComesTo-any (sized wc w)) λ _. ComesTo-ok refl
limits_kept w (Step.Arrive k bytes) = ComesTo-bind (ComesTo-any (socket_of k w)) λ socket _. ComesTo-then (ComesTo-any (refused_if (length bytes == 0) _)) λ _. ComesTo-then (ComesTo-any (refused_if socket.peer_closed _)) λ _. ComesTo-then (ComesTo-any (refused_unless (nat_le (length bytes) (room_of socket.buffers.read)) _)) λ _. ComesTo-ok refl
limits_kept w (Step.PeerClose k) = ComesTo-bind (ComesTo-any (socket_of k w)) λ socket _. ComesTo-then (ComesTo-any (refused_if socket.peer_closed _)) λ _. ComesTo-ok refl
limits_kept w (Step.SysRead g k n) = ComesTo-then (ComesTo-any (idle g w)) λ _. ComesTo-bind (ComesTo-any (socket_of k w)) λ socket _. ComesTo-then (ComesTo-any (sized n w)) λ _. ComesTo-ok refl
limits_kept w (Step.SysWrite g k bytes) = ComesTo-then (ComesTo-any (idle g w)) λ _. ComesTo-bind (ComesTo-any (socket_of k w)) λ socket _. ComesTo-then (ComesTo-any (refused_if (length bytes == 0) _)) λ _. ComesTo-ok refl
limits_kept w (Step.Drain k n) = ComesTo-bind (ComesTo-any (socket_of k w)) λ socket _. ComesTo-then (ComesTo-any (refused_if (n == 0) _)) λ _. ComesTo-then (ComesTo-any (refused_if (nat_lt (length socket.buffers.write.bytes) n) _)) λ _. ComesTo-ok refl
limits_kept w (Step.Incref g k) = ComesTo-then (ComesTo-any (idle g w)) λ _. ComesTo-bind (ComesTo-any (socket_of k w)) λ socket _. ComesTo-bind (ComesTo-any (Lock.incref socket.lock)) λ left _. ComesTo-ok refl
limits_kept w (Step.IncrefClose g k) = ComesTo-then (ComesTo-any (idle g w)) λ _. ComesTo-bind (ComesTo-any (socket_of k w)) λ socket _. ComesTo-bind (ComesTo-any (Lock.incref_close socket.lock)) λ left _. ComesTo-ok refl
limits_kept w (Step.Decref g k) = ComesTo-then (ComesTo-any (idle g w)) λ _. ComesTo-bind (ComesTo-any (socket_of k w)) λ socket _. ComesTo-bind (ComesTo-any (Lock.decref socket.lock)) λ left _. ComesTo-ok refl
limits_kept w (Step.RwLock g k s) = ComesTo-bind (ComesTo-any (status_of g w)) λ status _. ComesTo-then (ComesTo-any (refused_unless (may_lock k s status) _)) λ _. ComesTo-bind (ComesTo-any (socket_of k w)) λ socket _. ComesTo-bind (ComesTo-any (Lock.rw_lock s socket.lock)) λ left _. ComesTo-ok refl
limits_kept w (Step.RwUnlock g k s) = ComesTo-then (ComesTo-any (idle g w)) λ _. ComesTo-bind (ComesTo-any (socket_of k w)) λ socket _. ComesTo-bind (ComesTo-any (Lock.rw_unlock s socket.lock)) λ left _. ComesTo-ok refl
limits_kept w (Step.Acquire g) = ComesTo-bind (ComesTo-any (status_of g w)) λ status _. ComesTo-bind (ComesTo-any (acquiring_of status)) λ place _. ComesTo-bind (ComesTo-any (socket_of place.0 w)) λ socket _. ComesTo-ok (either_left w (is_free (of_side place.1 socket.semaphores)) _ _ refl refl)
limits_kept w (Step.Release g) = ComesTo-bind (ComesTo-any (status_of g w)) λ status _. ComesTo-bind (ComesTo-any (owing_of status)) λ debt _. ComesTo-bind (ComesTo-any (socket_of debt.0 w)) λ socket _. ComesTo-bind (ComesTo-any (released (of_side (if nat_lt 0 debt.1.read then Read else Write) socket.semaphores))) λ left _. ComesTo-ok (again_limits debt.0 (if nat_lt 0 debt.1.read then Read else Write) (front_of (of_side (if nat_lt 0 debt.1.read then Read else Write) socket.semaphores)) _)
limits_kept w (Step.PollOpen g k) = ComesTo-then (ComesTo-any (idle g w)) λ _. ComesTo-bind (ComesTo-any (socket_of k w)) λ socket _. ComesTo-bind (taken_limits w.free w) λ place same. ComesTo-bind (ComesTo-any (row_of place.0 place.1)) λ row _. ComesTo-bind (ComesTo-any (opened_for k row.descriptor)) λ descriptor _. ComesTo-ok same
limits_kept w (Step.PollClose g e) = ComesTo-then (ComesTo-any (idle g w)) λ _. ComesTo-bind (ComesTo-any (open_row_of e w)) λ row _. ComesTo-then (ComesTo-any (refused_unless row.descriptor.closing _)) λ _. ComesTo-then (ComesTo-any (refused_if (is_waited e Read w.goroutines || is_waited e Write w.goroutines) _)) λ _. ComesTo-bind (ComesTo-any (closed row.descriptor)) λ descriptor _. ComesTo-ok refl
limits_kept w (Step.PollReset g e s) = ComesTo-then (ComesTo-any (idle g w)) λ _. ComesTo-bind (ComesTo-any (open_row_of e w)) λ row _. ComesTo-then (ComesTo-any (refused_if ((check s row.descriptor == 0) && is_waited e s w.goroutines) _)) λ _. ComesTo-ok (either_limits w (check s row.descriptor == 0) _ w refl refl)
limits_kept w (Step.WaitBegin g e s) = ComesTo-then (ComesTo-any (idle g w)) λ _. ComesTo-bind (ComesTo-any (open_row_of e w)) λ row _. ComesTo-then (ComesTo-any (refused_if ((check s row.descriptor == 0) && is_waited e s w.goroutines) _)) λ _. ComesTo-ok (either_limits w (check s row.descriptor == 0) _ w refl refl)
limits_kept w (Step.BlockArm g) = ComesTo-bind (ComesTo-any (status_of g w)) λ status _. ComesTo-bind (ComesTo-any (entering_of status)) λ place _. ComesTo-bind (ComesTo-any (row_of place.0 w)) λ row _. armed_limits g place.0 place.1 (of_side place.1 row.descriptor.words) row w
limits_kept w (Step.BlockCheck g) = ComesTo-bind (ComesTo-any (status_of g w)) λ status _. ComesTo-bind (ComesTo-any (armed_of status)) λ place _. ComesTo-bind (ComesTo-any (row_of place.0 w)) λ row _. ComesTo-ok refl
limits_kept w (Step.ParkCommit g) = ComesTo-bind (ComesTo-any (status_of g w)) λ status _. ComesTo-bind (ComesTo-any (parking_of status)) λ place _. ComesTo-bind (ComesTo-any (row_of place.0 w)) λ row _. ComesTo-ok (committed_limits g place.0 place.1 (of_side place.1 row.descriptor.words) row w)
limits_kept w (Step.BlockSwap g) = ComesTo-bind (ComesTo-any (status_of g w)) λ status _. ComesTo-bind (ComesTo-any (swapping_of status)) λ place _. ComesTo-bind (ComesTo-any (row_of place.0 w)) λ row _. ComesTo-ok (swapped_limits g place.0 place.1 (of_side place.1 row.descriptor.words) row w)
limits_kept w (Step.WaitCheck g) = ComesTo-bind (ComesTo-any (status_of g w)) λ status _. ComesTo-bind (ComesTo-any (checking_of status)) λ place _. ComesTo-bind (ComesTo-any (row_of place.0 w)) λ row _. ComesTo-ok refl
limits_kept w (Step.SetDeadline g e mode x) = ComesTo-then (ComesTo-any (idle g w)) λ _. ComesTo-bind (ComesTo-any (open_row_of e w)) λ row _. ComesTo-bind (ComesTo-any (change_by_deadline w.clock mode x row.descriptor)) λ change _. ComesTo-bind (changed_limits e row change w) λ next same. ComesTo-ok same
limits_kept w (Step.Evict g e) = ComesTo-then (ComesTo-any (idle g w)) λ _. ComesTo-bind (ComesTo-any (open_row_of e w)) λ row _. ComesTo-bind (ComesTo-any (change_by_evict row.descriptor)) λ change _. ComesTo-bind (changed_limits e row change w) λ next same. ComesTo-ok same
limits_kept w (Step.PollEvent e tag mode error) = ComesTo-bind (ComesTo-any (row_of e w)) λ row _. ComesTo-either (is_free_number e w.free || not (tag == row.descriptor.fdseq)) (ComesTo-ok refl) (ComesTo-bind (changed_limits e row (change_by_event mode error row.descriptor) w) λ next same. ComesTo-ok same)
limits_kept w (Step.Tick x) = ComesTo-then (ComesTo-any (refused_if (int_lt x w.clock) _)) λ _. ComesTo-ok refl
limits_kept w Step.Pop = ComesTo-bind (ComesTo-any (found_or (least_entry w) _)) λ entry _. ComesTo-then (ComesTo-any (refused_unless (int_le entry.timer.due w.clock) _)) λ _. ComesTo-then (ComesTo-any (refused_unless (nat_lt (length w.firings) (2 * w.limits.descriptors)) _)) λ _. ComesTo-bind (ComesTo-any (row_of entry.descriptor w)) λ row _. ComesTo-ok refl
limits_kept w (Step.Fire i) = ComesTo-bind (ComesTo-any (found_or (slice_get w.firings i) _)) λ entry _. ComesTo-bind (ComesTo-any (row_of entry.descriptor w)) λ row _. ComesTo-bind (ComesTo-any (change_by_firing entry.timer.function entry.timer.sequence row.descriptor)) λ change _. fired_limits entry.descriptor row change (record w { firings = remove w.firings i })
limits_kept w (Step.CloseWrite g k) = ComesTo-then (ComesTo-any (idle g w)) λ _. ComesTo-bind (ComesTo-any (socket_of k w)) λ socket _. ComesTo-ok refl

pub step_limits : (w : World) (step : Step) (answer : Answer) (next : World) → outcome w step ≡ Ok (answer, next) → next.limits ≡ w.limits
step_limits w step answer next is = (limits_kept w step).value (answer, next) is

next_limits : (w : World) (step : Step) → (next_of w (outcome w step)).limits ≡ w.limits
next_limits w step = go (outcome w step) refl
  where
    go : (o : Outcome) → outcome w step ≡ o → (next_of w o).limits ≡ w.limits
    go (Ok (answer, next)) is = step_limits w step answer next is
    go (Err reason) is = refl

run_limits : (w : World) (steps : List Step) → (world_after w steps).limits ≡ w.limits
run_limits w [] = refl
run_limits w (step ∷ steps) = run_limits (next_of w (outcome w step)) steps ∙ next_limits w step

-- the world at each position has the recording's limits
pub limits_at : (r : Recording) (n : ℕ) → (world_at r n).limits ≡ r.limits
limits_at r n = run_limits (empty_world r.limits) (take n r.steps)
