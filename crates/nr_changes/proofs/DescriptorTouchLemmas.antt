-- Steps on descriptors, waits, deadlines and timers change only what they touch.
use Rattle.std.proofs.Common.{◌≡◌, ℕ, Bool, ◌&&◌, ◌||◌, not, List, [], ◌∷◌, length, Option, Some, None, refl, ap, ◌∙◌, subst, sym}
use Rattle.std.specs.Prelude.{Contains, slice_get, option_map, option_and_then, ◌==◌, nat_lt, int_lt, int_le, ◌*◌, ℤ}
use Rattle.std.specs.Option.{option_map_or}
use Rattle.nr_rev.specs.declared.descriptor.DescriptorRow.{DescriptorRow}
use Rattle.nr_rev.specs.declared.descriptor.WaitWord.{WaitWord}
use Rattle.nr_rev.specs.declared.sides.Mode.{Mode}
use Rattle.nr_rev.specs.declared.sides.Side.{Side}
use Rattle.nr_rev.specs.declared.sides.Side.TheVariants.{Read, Write}
use Rattle.nr_rev.specs.declared.status.Status.{Status}
use Rattle.nr_rev.specs.declared.step.Step.{Step}
use Rattle.nr_rev.specs.Descriptor.{Change, opened_for, closed, check, change_by_event}
use Rattle.nr_rev.specs.Refusing.{refused_if, refused_unless, found_or}
use Rattle.nr_rev.specs.Sides.{of_side, with_side}
use Rattle.nr_rev.specs.Step.{Outcome, idle, status_of, socket_of, row_of, open_row_of, taken, pollopen, pollclose, after_orders, after_change, evict, pollevent, pollreset, waitbegin, with_wait, armed_by, blockarm, blockcheck, committed_by, parkcommit, swapped_by, blockswap, waitcheck, setdeadline, tick, pop, fired_with, fire}
use Rattle.nr_rev.specs.World.{World, wait_of, is_free_number, is_waited, least_entry}
use Rattle.nr_laws.proofs.AspectDescriptorStepLemmas.{ComesTo-open_row_of}
use Rattle.nr_laws.proofs.AspectLemmas.{ComesTo, ComesTo-ok, ComesTo-refused, ComesTo-ends, ComesTo-any, ComesTo-bind, ComesTo-then, ComesTo-either}
use Rattle.nr_laws.proofs.LookupLemmas.{Ends-row_of, Ends-status_of, Ends-entering_of, Ends-armed_of, Ends-parking_of, Ends-swapping_of, Ends-checking_of}
use Rattle.nr_rev.proofs.OutcomeLemmas.{Ends-found_or}
use Rattle.nr_changes.specs.Touched.{Touched, touched, touched_by_firing, descriptor_at, held_of, held_at}
use Rattle.nr_changes.proofs.KeepsLemmas.{Keeps, Touches, Keeps-same, Keeps-then, Keeps-if, goroutine_set, row_set, row_pushed, rest_set, timers_set, wakes_keep}
use Rattle.nr_changes.proofs.MemberLemmas.{here, later}
use Rattle.nr_changes.proofs.WakeLemmas.{Wakes, evict_wakes, event_wakes, deadline_wakes, firing_wakes}

-- ---- opening and closing

taken_keeps : (t : Touched) (free : List ℕ) (w : World) → t.descriptor ≡ Some (option_map_or (λ d. d) (slice_get free 0) (length w.descriptors))
    → ComesTo (λ (left : ℕ × World). Keeps t w left.1 × (t.descriptor ≡ Some left.0)) (taken free w)
taken_keeps t (d ∷ free) w at = ComesTo-ok (rest_set t w _ refl refl refl, at)
taken_keeps t [] w at =
    ComesTo-then (ComesTo-any (refused_unless (nat_lt (length w.descriptors) w.limits.descriptors) _)) λ _.
    ComesTo-ok (row_pushed t w _ at, at)

pub pollopen_touches : (w : World) (g s : ℕ) → Touches (touched w (Step.PollOpen g s)) w (pollopen g s w)
pollopen_touches w g s =
    ComesTo-then (ComesTo-any (idle g w)) λ _.
    ComesTo-bind (ComesTo-any (socket_of s w)) λ _ _.
    ComesTo-bind (taken_keeps (touched w (Step.PollOpen g s)) w.free w refl) λ place takes.
    ComesTo-bind (ComesTo-any (row_of place.0 place.1)) λ row _.
    ComesTo-bind (ComesTo-any (opened_for s row.descriptor)) λ descriptor _.
    ComesTo-ok (Keeps-then takes.0 (row_set _ place.1 place.0 _ takes.1))

pub pollclose_touches : (w : World) (g d : ℕ) → Touches (touched w (Step.PollClose g d)) w (pollclose g d w)
pollclose_touches w g d =
    ComesTo-then (ComesTo-any (idle g w)) λ _.
    ComesTo-bind (ComesTo-any (open_row_of d w)) λ row _.
    ComesTo-then (ComesTo-any (refused_unless row.descriptor.closing _)) λ _.
    ComesTo-then (ComesTo-any (refused_if (is_waited d Read w.goroutines || is_waited d Write w.goroutines) _)) λ _.
    ComesTo-bind (ComesTo-any (closed row.descriptor)) λ descriptor _.
    ComesTo-ok (Keeps-then (row_set _ w d _ refl) (rest_set _ _ _ refl refl refl))

-- ---- waits

pub pollreset_touches : (w : World) (g d : ℕ) (side : Side) → Touches (touched w (Step.PollReset g d side)) w (pollreset g d side w)
pollreset_touches w g d side =
    ComesTo-then (ComesTo-any (idle g w)) λ _.
    ComesTo-bind (ComesTo-any (open_row_of d w)) λ row _.
    ComesTo-then (ComesTo-any (refused_if ((check side row.descriptor == 0) && is_waited d side w.goroutines) _)) λ _.
    ComesTo-ok (Keeps-if (check side row.descriptor == 0) (row_set _ w d _ refl) Keeps-same)

pub waitbegin_touches : (w : World) (g d : ℕ) (side : Side) → Touches (touched w (Step.WaitBegin g d side)) w (waitbegin g d side w)
waitbegin_touches w g d side =
    ComesTo-then (ComesTo-any (idle g w)) λ _.
    ComesTo-bind (ComesTo-any (open_row_of d w)) λ row _.
    ComesTo-then (ComesTo-any (refused_if ((check side row.descriptor == 0) && is_waited d side w.goroutines) _)) λ _.
    ComesTo-ok (Keeps-if (check side row.descriptor == 0) (goroutine_set _ w g _ _ (here g [])) Keeps-same)

-- a goroutine inside a wait is at the wait's descriptor
inside : (w : World) (g d : ℕ) (side : Side) (status : Status) → slice_get w.goroutines g ≡ Some status → wait_of status ≡ Some (d, side) → descriptor_at g w ≡ Some d
inside w g d side status at is = ap (λ o. option_map (λ (place : ℕ × Side). place.0) (option_and_then wait_of o)) at ∙ ap (option_map (λ (place : ℕ × Side). place.0)) is

wait_set : (t : Touched) (w : World) (g : ℕ) (status : Status) (d : ℕ) (side : Side) (word : WaitWord) (row : DescriptorRow) → t.descriptor ≡ Some d → Contains t.goroutines g
    → Keeps t w (with_wait g status d side word row w)
wait_set t w g status d side word row at mine = Keeps-then (row_set t w d _ at) (goroutine_set t _ g status _ mine)

armed_touches : (t : Touched) (g d : ℕ) (side : Side) (word : WaitWord) (row : DescriptorRow) (w : World) → t.descriptor ≡ Some d → Contains t.goroutines g → Touches t w (armed_by g d side word row w)
armed_touches t g d side WaitWord.Nil row w at mine = ComesTo-ok (wait_set t w g _ d side WaitWord.Wait row at mine)
armed_touches t g d side WaitWord.Ready row w at mine = ComesTo-ok (wait_set t w g _ d side WaitWord.Nil row at mine)
armed_touches t g d side _ row w at mine = ComesTo-refused

pub blockarm_touches : (w : World) (g : ℕ) → Touches (touched w (Step.BlockArm g)) w (blockarm g w)
blockarm_touches w g =
    ComesTo-bind (ComesTo-ends (Ends-status_of g w)) λ status at.
    ComesTo-bind (ComesTo-ends (Ends-entering_of status)) λ place is.
    ComesTo-bind (ComesTo-any (row_of place.0 w)) λ row _.
    armed_touches _ g place.0 place.1 (of_side place.1 row.descriptor.words) row w (inside w g _ place.1 status at (ap wait_of is)) (here g [])

pub blockcheck_touches : (w : World) (g : ℕ) → Touches (touched w (Step.BlockCheck g)) w (blockcheck g w)
blockcheck_touches w g =
    ComesTo-bind (ComesTo-any (status_of g w)) λ status _.
    ComesTo-bind (ComesTo-ends (Ends-armed_of status)) λ place _.
    ComesTo-bind (ComesTo-any (row_of place.0 w)) λ row _.
    ComesTo-ok (goroutine_set _ w g _ _ (here g []))

committed_keeps : (t : Touched) (g d : ℕ) (side : Side) (word : WaitWord) (row : DescriptorRow) (w : World) → t.descriptor ≡ Some d → Contains t.goroutines g
    → Keeps t w (committed_by g d side word row w).1
committed_keeps t g d side WaitWord.Wait row w at mine = Keeps-then (wait_set t w g _ d side (WaitWord.Held g) row at mine) (rest_set t _ _ refl refl refl)
committed_keeps t g d side _ row w at mine = goroutine_set t w g _ _ mine

pub parkcommit_touches : (w : World) (g : ℕ) → Touches (touched w (Step.ParkCommit g)) w (parkcommit g w)
parkcommit_touches w g =
    ComesTo-bind (ComesTo-ends (Ends-status_of g w)) λ status at.
    ComesTo-bind (ComesTo-ends (Ends-parking_of status)) λ place is.
    ComesTo-bind (ComesTo-any (row_of place.0 w)) λ row _.
    ComesTo-ok (committed_keeps _ g place.0 place.1 (of_side place.1 row.descriptor.words) row w (inside w g _ place.1 status at (ap wait_of is)) (here g []))

swapped_keeps : (t : Touched) (g d : ℕ) (side : Side) (word : WaitWord) (row : DescriptorRow) (w : World) → t.descriptor ≡ Some d → Contains t.goroutines g
    → Keeps t w (swapped_by g d side word row w).1
swapped_keeps t g d side WaitWord.Ready row w at mine = wait_set t w g _ d side WaitWord.Nil row at mine
swapped_keeps t g d side _ row w at mine = wait_set t w g _ d side WaitWord.Nil row at mine

pub blockswap_touches : (w : World) (g : ℕ) → Touches (touched w (Step.BlockSwap g)) w (blockswap g w)
blockswap_touches w g =
    ComesTo-bind (ComesTo-ends (Ends-status_of g w)) λ status at.
    ComesTo-bind (ComesTo-ends (Ends-swapping_of status)) λ place is.
    ComesTo-bind (ComesTo-any (row_of place.0 w)) λ row _.
    ComesTo-ok (swapped_keeps _ g place.0 place.1 (of_side place.1 row.descriptor.words) row w (inside w g _ place.1 status at (ap wait_of is)) (here g []))

pub waitcheck_touches : (w : World) (g : ℕ) → Touches (touched w (Step.WaitCheck g)) w (waitcheck g w)
waitcheck_touches w g =
    ComesTo-bind (ComesTo-any (status_of g w)) λ status _.
    ComesTo-bind (ComesTo-ends (Ends-checking_of status)) λ place _.
    ComesTo-bind (ComesTo-any (row_of place.0 w)) λ row _.
    ComesTo-ok (goroutine_set _ w g _ _ (here g []))

-- ---- changes to a descriptor and its timers

change_keeps : (t : Touched) (d : ℕ) (row : DescriptorRow) (change : Change) (w : World) → t.descriptor ≡ Some d → ((h : ℕ) → Contains change.woken h → Contains t.goroutines h)
    → ComesTo (Keeps t w) (after_change d row change w)
change_keeps t d row change w at among =
    ComesTo-bind (ComesTo-any (after_orders change.orders (row.timers, w.next_arming))) λ left _.
    ComesTo-ok (Keeps-then (row_set t w d _ at) (Keeps-then (rest_set t _ _ refl refl refl) (wakes_keep t change.woken _ among)))

-- if a word of descriptor d's row holds a goroutine, `held_at` contains that goroutine
held_there : (w : World) (d : ℕ) (row : DescriptorRow) (h : ℕ) → slice_get w.descriptors d ≡ Some row → Contains (held_of row.descriptor) h → Contains (held_at d w) h
held_there w d row h at held =
    subst (λ gs. Contains gs h) (sym (ap (λ o. option_map_or (λ (x : DescriptorRow). held_of x.descriptor) o []) at)) held

-- the goroutines that a change wakes are among those that the step `evict` touches
beside : (w : World) (g d : ℕ) (row : DescriptorRow) (change : Change) → slice_get w.descriptors d ≡ Some row → Wakes row.descriptor change → (h : ℕ) → Contains change.woken h
    → Contains (touched w (Step.Evict g d)).goroutines h
beside w g d row change at so h woken = later g (held_at d w) h (held_there w d row h at (so.woken h woken))

pub evict_touches : (w : World) (g d : ℕ) → Touches (touched w (Step.Evict g d)) w (evict g d w)
evict_touches w g d =
    ComesTo-then (ComesTo-any (idle g w)) λ _.
    ComesTo-bind (ComesTo-open_row_of d w) λ row at.
    ComesTo-bind (evict_wakes row.descriptor) λ change so.
    ComesTo-bind (change_keeps _ d row change w refl (beside w g d row change at so)) λ next keeps.
    ComesTo-ok keeps

pub setdeadline_touches : (w : World) (g d : ℕ) (mode : Mode) (t : ℤ) → Touches (touched w (Step.SetDeadline g d mode t)) w (setdeadline g d mode t w)
setdeadline_touches w g d mode t =
    ComesTo-then (ComesTo-any (idle g w)) λ _.
    ComesTo-bind (ComesTo-open_row_of d w) λ row at.
    ComesTo-bind (deadline_wakes w.clock mode t row.descriptor) λ change so.
    ComesTo-bind (change_keeps _ d row change w refl (beside w g d row change at so)) λ next keeps.
    ComesTo-ok keeps

pub pollevent_touches : (w : World) (d tag : ℕ) (mode : Mode) (error : Bool) → Touches (touched w (Step.PollEvent d tag mode error)) w (pollevent d tag mode error w)
pollevent_touches w d tag mode error =
    ComesTo-bind (ComesTo-ends (Ends-row_of d w)) λ row at.
    let change : Change = change_by_event mode error row.descriptor in
    let so : Wakes row.descriptor change = event_wakes mode error row.descriptor in
    ComesTo-either (is_free_number d w.free || not (tag == row.descriptor.fdseq)) (ComesTo-ok Keeps-same)
    (ComesTo-bind (change_keeps _ d row change w refl (λ h woken. held_there w d row h at (so.woken h woken))) λ next keeps.
    ComesTo-ok keeps)

-- ---- timers

pub tick_touches : (w : World) (t : ℤ) → Touches (touched w (Step.Tick t)) w (tick t w)
tick_touches w t =
    ComesTo-then (ComesTo-any (refused_if (int_lt t w.clock) _)) λ _.
    ComesTo-ok (rest_set _ w _ refl refl refl)

pub pop_touches : (w : World) → Touches (touched w Step.Pop) w (pop w)
pop_touches w =
    ComesTo-bind (ComesTo-any (found_or (least_entry w) _)) λ entry _.
    ComesTo-then (ComesTo-any (refused_unless (int_le entry.timer.due w.clock) _)) λ _.
    ComesTo-then (ComesTo-any (refused_unless (nat_lt (length w.firings) (2 * w.limits.descriptors)) _)) λ _.
    ComesTo-bind (ComesTo-ends (Ends-row_of entry.descriptor w)) λ row at.
    ComesTo-ok
    (Keeps-then (timers_set _ w entry.descriptor row (record row { timers = with_side entry.side None row.timers }) at refl) (rest_set _ _ _ refl refl refl))

fired_touches : (t : Touched) (d : ℕ) (row : DescriptorRow) (change : Option Change) (w : World) → t.descriptor ≡ Some d
    → ((x : Change) (h : ℕ) → change ≡ Some x → Contains x.woken h → Contains t.goroutines h) → Touches t w (fired_with d row change w)
fired_touches t d row None w at among = ComesTo-ok Keeps-same
fired_touches t d row (Some change) w at among = ComesTo-bind (change_keeps t d row change w at (λ h. among change h refl)) λ next keeps. ComesTo-ok keeps

-- a change to the world, followed by a step
Touches-after : {t : Touched} {w between : World} {o : Outcome} → Keeps t w between → Touches t between o → Touches t w o
Touches-after first step = record { value = λ left is. Keeps-then first (step.value left is) }

pub fire_touches : (w : World) (i : ℕ) → Touches (touched w (Step.Fire i)) w (fire i w)
fire_touches w i =
    ComesTo-bind (ComesTo-ends (Ends-found_or (slice_get w.firings i) _ refl)) λ entry is.
    ComesTo-bind (ComesTo-ends (Ends-row_of entry.descriptor w)) λ row at.
    ComesTo-bind (firing_wakes entry.timer.function entry.timer.sequence row.descriptor) λ change so.
    Touches-after (rest_set _ w _ refl refl refl)
    (fired_touches _ entry.descriptor row change _ (ap (λ o. (touched_by_firing o w).descriptor) is)
    (λ x h e woken.
    subst (λ o. Contains (touched_by_firing o w).goroutines h) (sym is)
    (held_there w entry.descriptor row h at ((so x e).woken h woken))))
