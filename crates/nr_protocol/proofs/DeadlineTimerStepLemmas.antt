-- Each step leaves each deadline its timer.
use Rattle.std.proofs.Common.{◌≡◌, ℕ, ℤ, ◌*◌, Bool, true, false, not, ◌&&◌, ◌||◌, int_eq, List, [], ◌∷◌, ◌++◌, length, Option, Some, None, Result, Ok, ◌⊎◌, inl, inr, refl, sym, ap, subst, ◌∙◌, set, true≢false}
use Rattle.std.proofs.lemmas.Bool.{eq-eqb}
use Rattle.std.proofs.lemmas.Option.{same_Some}
use Rattle.std.specs.Prelude.{slice_get, if◌then◌else◌, ◌==◌, nat_lt, int_le, option_map, remove}
use Rattle.nr_rev.specs.declared.answer.Answer.{Answer}
use Rattle.nr_rev.specs.declared.descriptor.Descriptor.{Descriptor}
use Rattle.nr_rev.specs.declared.descriptor.DescriptorRow.{DescriptorRow}
use Rattle.nr_rev.specs.declared.descriptor.WaitWord.{WaitWord}
use Rattle.nr_rev.specs.declared.descriptor.WaitWord.TheVariants.{Nil, Ready, Held}
use Rattle.nr_rev.specs.declared.refusal.Refusal.{Refusal}
use Rattle.nr_rev.specs.declared.sides.Mode.{Mode}
use Rattle.nr_rev.specs.declared.sides.Side.{Side}
use Rattle.nr_rev.specs.declared.sides.Side.TheVariants.{Read, Write}
use Rattle.nr_rev.specs.declared.sides.Sides.{Sides}
use Rattle.nr_rev.specs.declared.step.Step.{Step}
use Rattle.nr_rev.specs.declared.timer.Entry.{Entry}
use Rattle.nr_rev.specs.declared.timer.Timer.{Timer}
use Rattle.nr_rev.specs.declared.timer.TimerFunction.{TimerFunction}
use Rattle.nr_rev.specs.declared.timer.TimerOrder.{TimerOrder}
use Rattle.nr_rev.specs.Descriptor.{Change, quiet, and_then, then_if, unblocked, both_raised, opened_for, closed, deadline_from, with_deadlines, with_wait_word, timer_follows, timer_reset, timer_function, wants_timer, is_combo, is_positive, same_bool, is_expired, is_current, is_timed, expired_unblocked, change_by_deadline, stop_if, change_by_evict, expire, change_by_firing, change_by_event, check}
use Rattle.nr_rev.specs.Refusing.{refused_if, refused_unless, raised_sequence}
use Rattle.nr_rev.specs.Sides.{of_side, with_side, twice, covers_side, side_of_function}
use Rattle.nr_rev.specs.Step.{Outcome, idle, status_of, socket_of, taken, new_row, after_orders, after_change, pollopen, pollclose, evict, pollevent, pollreset, entering_of, armed_of, parking_of, swapping_of, armed_by, blockarm, blockcheck, committed_by, parkcommit, swapped_by, blockswap, setdeadline, pop, fired_with, fire, outcome}
use Rattle.nr_rev.specs.World.{World, is_free_number, is_waited, least_entry, with_row, with_descriptor}
use Rattle.nr_rev.specs.WellFormed.{WellFormed, FiringFits, IsCurrent}
use Rattle.nr_rev.proofs.ListUpdateLemmas.{slice_get-push_cases, slice_get-set_cases}
use Rattle.nr_rev.proofs.OutcomeLemmas.{Ends-map, Ends-found_or}
use Rattle.nr_rev.proofs.SideLemmas.{each_side, of_side-with_side_same}
use Rattle.nr_protocol.proofs.AsideStepLemmas.{Asides, aside_timed, spawn_aside, exit_aside, sockopen_aside, arrive_aside, peerclose_aside, sysread_aside, syswrite_aside, drain_aside, incref_aside, increfclose_aside, decref_aside, rwlock_aside, rwunlock_aside, acquire_aside, release_aside, waitbegin_aside, waitcheck_aside, tick_aside, closewrite_aside}
use Rattle.nr_laws.proofs.AspectDescriptorStepLemmas.{ComesTo-open_row_of}
use Rattle.nr_laws.proofs.AspectLemmas.{ComesTo, ComesTo-ok, ComesTo-refused, ComesTo-ends, ComesTo-any, ComesTo-bind, ComesTo-then, ComesTo-either}
use Rattle.nr_laws.proofs.BoolLemmas.{not_false, not_true}
use Rattle.nr_protocol.proofs.DeadlineTimerLemmas.{Timed, SideKept, SideArmed, SidesTimed, carried, row_timed, same_sides, sides_like, pushed_row, removed_firing, popped_timer, wakes_timed, wants_like}
use Rattle.nr_laws.proofs.DescriptorChangeLemmas.{orders_if}
use Rattle.nr_laws.proofs.LookupLemmas.{Ends-row_of}
use Rattle.nr_laws.proofs.SetDeadlineLemmas.{followed_alike, Ends-updated_by, Ends-append}
use Rattle.nr_protocol.proofs.SleepStepLemmas.{Rests-cases}
use Rattle.nr_laws.proofs.TimerFollowsLemmas.{Ends-timer_follows}
use Rattle.nr_laws.proofs.TimerStepLemmas.{least_is_there, current_is}
use Rattle.nr_laws.proofs.TimerUpdateLemmas.{TimerUpdate, Kept, Armed, Stopped, timer_left}
use Rattle.nr_laws.proofs.TimersFitMoveLemmas.{unarmed}
use Rattle.nr_protocol.specs.Deadlines.{DeadlinesTimed}

-- true if a step leaves each deadline its timer, or is refused
abbrev pub Times : Outcome → Type 0
Times o = ComesTo (λ (left : Answer × World). Timed left.1) o

ComesTo-map : {A : Type 0} {P Q : A → Type 0} {m : Result A Refusal} → ComesTo P m → ((a : A) → P a → Q a) → ComesTo Q m
ComesTo-map first less = record { value = λ a is. less a (first.value a is) }

ComesTo-both : {A : Type 0} {P Q : A → Type 0} {m : Result A Refusal} → ComesTo P m → ComesTo Q m → ComesTo (λ a. P a × Q a) m
ComesTo-both p q = record { value = λ a is. (p.value a is, q.value a is) }

-- ---- words, opening and closing

word_timed : (w : World) (d : ℕ) (side : Side) (word : WaitWord) (row : DescriptorRow) → slice_get w.descriptors d ≡ Some row → Timed w
    → Timed (with_descriptor d row (with_wait_word side word row.descriptor) w)
word_timed w d side word row at h = row_timed w.descriptors w.firings d row (record row { descriptor = with_wait_word side word row.descriptor }) at (same_sides row _ refl refl refl refl) h

new_row_timed : (w : World) → Timed w → Timed (record w { descriptors = w.descriptors ++ new_row ∷ [] })
new_row_timed w h =
    record {
      timed = λ d side row is still_open wants.
          elim (slice_get-push_cases w.descriptors new_row row d is) [
            | inl old ↦ pushed_row w.descriptors w.firings new_row d side (h.timed d side row old still_open wants)
            | inr new ↦
                absurd (true≢false (sym (ap (λ (r : DescriptorRow). wants_timer side r.descriptor) new.1 ∙ wants) ∙ each_side (λ s. wants_timer s new_row.descriptor ≡ false) refl refl side))
          ];
    }

taken_timed : (free : List ℕ) (w : World) → Timed w → ComesTo (λ (left : ℕ × World). Timed left.1) (taken free w)
taken_timed (d ∷ free) w h = ComesTo-ok h
taken_timed [] w h =
    ComesTo-then (ComesTo-any (refused_unless (nat_lt (length w.descriptors) w.limits.descriptors) _)) λ _.
    ComesTo-ok (new_row_timed w h)

opened_timed : (s : ℕ) (row : DescriptorRow) → ComesTo (λ (d : Descriptor). SidesTimed row (record row { descriptor = d })) (opened_for s row.descriptor)
opened_timed s row =
    ComesTo-bind (ComesTo-any (both_raised row.descriptor.sequences)) λ sequences _.
    ComesTo-ok (each_side _ (λ _ wants. cc) (λ _ wants. cc))

pub pollopen_timed : (w : World) (g s : ℕ) → Timed w → Times (pollopen g s w)
pollopen_timed w g s h =
    ComesTo-then (ComesTo-any (idle g w)) λ _.
    ComesTo-bind (ComesTo-any (socket_of s w)) λ socket _.
    ComesTo-bind (taken_timed w.free w h) λ took fits.
    ComesTo-bind (ComesTo-ends (Ends-row_of took.0 took.1)) λ row at.
    ComesTo-bind (opened_timed s row) λ descriptor sides.
    ComesTo-ok (row_timed took.1.descriptors took.1.firings took.0 row (record row { descriptor = descriptor }) at sides fits)

closed_timed : (row : DescriptorRow) → ComesTo (λ (d : Descriptor). SidesTimed row (record row { descriptor = d })) (closed row.descriptor)
closed_timed row = ComesTo-bind (ComesTo-any (raised_sequence row.descriptor.fdseq)) λ fdseq _. ComesTo-ok (same_sides row (record row { descriptor = record row.descriptor { fdseq = fdseq } }) refl refl refl refl)

pub pollclose_timed : (w : World) (g d : ℕ) → Timed w → Times (pollclose g d w)
pollclose_timed w g d h =
    ComesTo-then (ComesTo-any (idle g w)) λ _.
    ComesTo-bind (ComesTo-open_row_of d w) λ row at.
    ComesTo-then (ComesTo-any (refused_unless row.descriptor.closing _)) λ _.
    ComesTo-then (ComesTo-any (refused_if (is_waited d Read w.goroutines || is_waited d Write w.goroutines) _)) λ _.
    ComesTo-bind (closed_timed row) λ descriptor sides.
    ComesTo-ok (row_timed w.descriptors w.firings d row (record row { descriptor = descriptor }) at sides h)

-- ---- waits

pub pollreset_timed : (w : World) (g d : ℕ) (side : Side) → Timed w → Times (pollreset g d side w)
pollreset_timed w g d side h =
    ComesTo-then (ComesTo-any (idle g w)) λ _.
    ComesTo-bind (ComesTo-open_row_of d w) λ row at.
    ComesTo-then (ComesTo-any (refused_if ((check side row.descriptor == 0) && is_waited d side w.goroutines) _)) λ _.
    ComesTo-ok (reset row at (check side row.descriptor == 0))
  where
    reset : (row : DescriptorRow) → slice_get w.descriptors d ≡ Some row → (zero : Bool) → Timed (if zero then with_descriptor d row (with_wait_word side Nil row.descriptor) w else w)
    reset row at true = word_timed w d side Nil row at h
    reset row at false = h

arms_timed : (w : World) (g d : ℕ) (side : Side) (row : DescriptorRow) (word : WaitWord) → slice_get w.descriptors d ≡ Some row → Timed w → Times (armed_by g d side word row w)
arms_timed w g d side row Nil at h = ComesTo-ok (word_timed w d side WaitWord.Wait row at h)
arms_timed w g d side row Ready at h = ComesTo-ok (word_timed w d side Nil row at h)
arms_timed w g d side row _ at h = ComesTo-refused

pub blockarm_timed : (w : World) (g : ℕ) → Timed w → Times (blockarm g w)
blockarm_timed w g h =
    ComesTo-bind (ComesTo-any (status_of g w)) λ status _.
    ComesTo-bind (ComesTo-any (entering_of status)) λ place _.
    ComesTo-bind (ComesTo-ends (Ends-row_of place.0 w)) λ row at.
    arms_timed w g place.0 place.1 row (of_side place.1 row.descriptor.words) at h

pub blockcheck_timed : (w : World) (g : ℕ) → Timed w → Times (blockcheck g w)
blockcheck_timed w g h =
    ComesTo-bind (ComesTo-any (status_of g w)) λ status _.
    ComesTo-bind (ComesTo-any (armed_of status)) λ place _.
    ComesTo-bind (ComesTo-ends (Ends-row_of place.0 w)) λ row _.
    ComesTo-ok h

commits_timed : (w : World) (g d : ℕ) (side : Side) (word : WaitWord) (row : DescriptorRow) → slice_get w.descriptors d ≡ Some row → Timed w → Timed (committed_by g d side word row w).1
commits_timed w g d side WaitWord.Wait row at h = word_timed w d side (Held g) row at h
commits_timed w g d side _ row at h = h

pub parkcommit_timed : (w : World) (g : ℕ) → Timed w → Times (parkcommit g w)
parkcommit_timed w g h =
    ComesTo-bind (ComesTo-any (status_of g w)) λ status _.
    ComesTo-bind (ComesTo-any (parking_of status)) λ place _.
    ComesTo-bind (ComesTo-ends (Ends-row_of place.0 w)) λ row at.
    ComesTo-ok (commits_timed w g place.0 place.1 (of_side place.1 row.descriptor.words) row at h)

swaps_timed : (w : World) (g d : ℕ) (side : Side) (word : WaitWord) (row : DescriptorRow) → slice_get w.descriptors d ≡ Some row → Timed w → Timed (swapped_by g d side word row w).1
swaps_timed w g d side Ready row at h = word_timed w d side Nil row at h
swaps_timed w g d side _ row at h = word_timed w d side Nil row at h

pub blockswap_timed : (w : World) (g : ℕ) → Timed w → Times (blockswap g w)
blockswap_timed w g h =
    ComesTo-bind (ComesTo-any (status_of g w)) λ status _.
    ComesTo-bind (ComesTo-any (swapping_of status)) λ place _.
    ComesTo-bind (ComesTo-ends (Ends-row_of place.0 w)) λ row at.
    ComesTo-ok (swaps_timed w g place.0 place.1 (of_side place.1 row.descriptor.words) row at h)

-- ---- changes to a descriptor and its timers

-- each side has its timer once the orders are carried out
abbrev OrdersTime : DescriptorRow → Change → ℕ → Type 0
OrdersTime row change n = ComesTo (λ (left : Sides (Option Timer) × ℕ). SidesTimed row (record { descriptor = change.descriptor; timers = left.0 })) (after_orders change.orders (row.timers, n))

change_timed : (d : ℕ) (row : DescriptorRow) (change : Change) (w : World) → slice_get w.descriptors d ≡ Some row → OrdersTime row change w.next_arming → Timed w → ComesTo Timed (after_change d row change w)
change_timed d row change w at orders h =
    ComesTo-bind orders λ left sides.
    ComesTo-ok (wakes_timed change.woken _ (row_timed w.descriptors w.firings d row (record { descriptor = change.descriptor; timers = left.0 }) at sides h))

-- a change without orders leaves the timers
no_orders : (orders : List TimerOrder) (before : Sides (Option Timer) × ℕ) → orders ≡ [] → ComesTo (λ (left : Sides (Option Timer) × ℕ). left.0 ≡ before.0) (after_orders orders before)
no_orders [] before none = ComesTo-ok refl
no_orders (order ∷ orders) before none = cc

-- a closing descriptor needs no timer
closing_times : (row : DescriptorRow) (change : Change) (n : ℕ) → change.descriptor.closing ≡ true → OrdersTime row change n
closing_times row change n closing = ComesTo-map (ComesTo-any (after_orders change.orders (row.timers, n))) (λ left _ side still_open. absurd (true≢false (sym closing ∙ still_open)))

evict_times : (row : DescriptorRow) (n : ℕ) → ComesTo (λ change. OrdersTime row change n) (change_by_evict row.descriptor)
evict_times row n =
    ComesTo-then (ComesTo-any (refused_if row.descriptor.closing _)) λ _.
    ComesTo-bind (ComesTo-any (both_raised row.descriptor.sequences)) λ sequences _.
    let stopped : Change =
    record {
      descriptor = record row.descriptor { closing = true; sequences = sequences; running = twice false };
      orders = stop_if row.descriptor.running.read Read ++ stop_if row.descriptor.running.write Write;
      woken = [];
    }
    in
    ComesTo-ok (closing_times row (and_then (and_then stopped (unblocked false Read)) (unblocked false Write)) n refl)

pub evict_timed : (w : World) (g d : ℕ) → Timed w → Times (evict g d w)
evict_timed w g d h =
    ComesTo-then (ComesTo-any (idle g w)) λ _.
    ComesTo-bind (ComesTo-open_row_of d w) λ row at.
    ComesTo-bind (evict_times row w.next_arming) λ change orders.
    ComesTo-bind (change_timed d row change w at orders h) λ next fits.
    ComesTo-ok fits

event_times : (mode : Mode) (error : Bool) (row : DescriptorRow) (n : ℕ) → OrdersTime row (change_by_event mode error row.descriptor) n
event_times Mode.Read error row n = ComesTo-ok (same_sides row _ refl refl refl refl)
event_times Mode.Write error row n = ComesTo-ok (same_sides row _ refl refl refl refl)
event_times Mode.Both error row n = ComesTo-ok (same_sides row _ refl refl refl refl)

pub pollevent_timed : (w : World) (d tag : ℕ) (mode : Mode) (error : Bool) → Timed w → Times (pollevent d tag mode error w)
pollevent_timed w d tag mode error h =
    ComesTo-bind (ComesTo-ends (Ends-row_of d w)) λ row at.
    ComesTo-either (is_free_number d w.free || not (tag == row.descriptor.fdseq)) (ComesTo-ok h)
    (ComesTo-bind (change_timed d row (change_by_event mode error row.descriptor) w at (event_times mode error row w.next_arming) h) λ next fits. ComesTo-ok fits)

-- ---- deadlines

-- a side that needs a timer runs after its timer is adjusted
wanted_runs : (side : Side) (old d : Descriptor) → ComesTo (λ (change : Change). wants_timer side d ≡ true → of_side side change.descriptor.running ≡ true) (timer_follows side old d)
wanted_runs side old d =
    Rests-cases (not (of_side side d.running)) (λ _. ComesTo-ok (at_rest (wants_timer side d) refl)) λ runs.
    Rests-cases (int_eq (of_side side old.deadlines) (of_side side d.deadlines) && same_bool (is_combo old) (is_combo d)) (λ _. ComesTo-ok (λ _. not_false _ runs)) λ _.
    ComesTo-bind (ComesTo-any (raised_sequence (of_side side d.sequences))) λ next _.
    ComesTo-ok (λ wants. of_side-with_side_same side _ d.running ∙ wants_like side (record d { sequences = with_side side next d.sequences }) d refl ∙ wants)
  where
    at_rest : (b : Bool) → wants_timer side d ≡ b → wants_timer side d ≡ true → of_side side (if b then timer_reset side d else quiet d).descriptor.running ≡ true
    at_rest true is wants = of_side-with_side_same side (wants_timer side d) d.running ∙ wants
    at_rest false is wants = absurd (true≢false (sym wants ∙ is))

wants_kept : (side : Side) (old new : Descriptor) → of_side side new.deadlines ≡ of_side side old.deadlines → is_combo new ≡ is_combo old → wants_timer side new ≡ wants_timer side old
wants_kept Read old new deadline combo = ap is_positive deadline
wants_kept Write old new deadline combo = ap (λ t. is_positive t && not (is_combo new)) deadline ∙ ap (λ c. is_positive old.deadlines.write && not c) combo

-- a side that needs a timer kept it or has a new one
side_done : (side : Side) (row : DescriptorRow) (new : Descriptor) (after : Sides (Option Timer)) (n : ℕ) (update : TimerUpdate side row.descriptor new)
    → of_side side after ≡ timer_left side row.descriptor new (of_side side row.timers) n update → row.descriptor.closing ≡ false → of_side side new.running ≡ true → wants_timer side new ≡ true
    → SideKept side row (record { descriptor = new; timers = after }) ⊎ SideArmed side (record { descriptor = new; timers = after })
side_done side row new after n (Kept sequence running same) left was_open runs wants =
    let alike = same (sym running ∙ runs) in
    inl (left, sequence, was_open, sym (wants_kept side row.descriptor new alike.0 alike.1) ∙ wants)
side_done side row new after n (Armed begun running wanted) left was_open runs wants = inr (_, left, refl)
side_done side row new after n (Stopped raised halted) left was_open runs wants = absurd (true≢false (sym runs ∙ halted))

-- the parts of a descriptor that unblocking doesn't change
record SameTiming (a b : Descriptor) : Type 0 where
  sequences : b.sequences ≡ a.sequences
  closing : b.closing ≡ a.closing
  deadlines : b.deadlines ≡ a.deadlines

unblocked_same : (change : Change) (read write : Bool) → SameTiming change.descriptor (then_if (then_if change read (unblocked false Read)) write (unblocked false Write)).descriptor
unblocked_same change true true = record { sequences = refl; closing = refl; deadlines = refl }
unblocked_same change true false = record { sequences = refl; closing = refl; deadlines = refl }
unblocked_same change false true = record { sequences = refl; closing = refl; deadlines = refl }
unblocked_same change false false = record { sequences = refl; closing = refl; deadlines = refl }

deadline_times : (clock : ℤ) (mode : Mode) (t : ℤ) (row : DescriptorRow) (n : ℕ) → ComesTo (λ change. OrdersTime row change n) (change_by_deadline clock mode t row.descriptor)
deadline_times clock mode t row n =
    Rests-cases old.closing (λ closing. ComesTo-ok (ComesTo-ok (λ side still_open. absurd (true≢false (sym closing ∙ still_open))))) λ was_open.
    ComesTo-bind (ComesTo-both (ComesTo-ends (Ends-timer_follows Read old d refl refl)) (wanted_runs Read old d)) λ read a.
    ComesTo-bind
    (ComesTo-both (ComesTo-ends (Ends-timer_follows Write old read.descriptor (a.0.1.sequences Write (λ e. cc)) (a.0.1.running Write (λ e. cc)))) (wanted_runs Write old read.descriptor)) λ write b.
    let base : Change = and_then read (λ _. write) in
    let new : Descriptor = write.descriptor in
    let same : SameTiming new (expired_unblocked base).descriptor = unblocked_same base (is_expired Read base.descriptor) (is_expired Write base.descriptor) in
    ComesTo-ok
    (subst (λ (orders : List TimerOrder). ComesTo (λ (left : Sides (Option Timer) × ℕ). SidesTimed row (record { descriptor = (expired_unblocked base).descriptor; timers = left.0 })) (after_orders orders (row.timers, n)))
    (sym (orders_if (is_expired Write base.descriptor) false Write _ ∙ orders_if (is_expired Read base.descriptor) false Read base))
    (ComesTo-ends
    (Ends-append read.orders write.orders (row.timers, n)
    (Ends-updated_by Read old new row.timers n read.orders (followed_alike Read old read.descriptor new read.orders b.0.1.deadlines (b.0.1.running Read (λ e. cc)) (b.0.1.sequences Read (λ e. cc)) a.0.0))
    λ mid first.
    Ends-map (Ends-updated_by Write old new mid.0 mid.1 write.orders b.0.0) λ left second.
    sides_like row (record { descriptor = new; timers = left.0 }) (record { descriptor = (expired_unblocked base).descriptor; timers = left.0 }) refl same.sequences same.closing same.deadlines
    (each_side (λ side. new.closing ≡ false → wants_timer side new ≡ true → SideKept side row (record { descriptor = new; timers = left.0 }) ⊎ SideArmed side (record { descriptor = new; timers = left.0 }))
    (λ _ wants. side_done Read row new left.0 n first.update (second.other Read (λ e. cc) ∙ first.timer) was_open
    (b.0.1.running Read (λ e. cc) ∙ a.1 (sym (wants_like Read new d (b.0.1.deadlines ∙ a.0.1.deadlines)) ∙ wants)) wants)
    (λ _ wants. side_done Write row new left.0 mid.1 second.update (second.timer ∙ ap (λ x. timer_left Write old new x mid.1 second.update) (first.other Write (λ e. cc))) was_open
    (b.1 (sym (wants_like Write new read.descriptor b.0.1.deadlines) ∙ wants)) wants)))))
  where
    old : Descriptor
    old = row.descriptor

    d : Descriptor
    d = with_deadlines mode (deadline_from clock t) old

pub setdeadline_timed : (w : World) (g d : ℕ) (mode : Mode) (t : ℤ) → Timed w → Times (setdeadline g d mode t w)
setdeadline_timed w g d mode t h =
    ComesTo-then (ComesTo-any (idle g w)) λ _.
    ComesTo-bind (ComesTo-open_row_of d w) λ row at.
    ComesTo-bind (deadline_times w.clock mode t row w.next_arming) λ change orders.
    ComesTo-bind (change_timed d row change w at orders h) λ next fits.
    ComesTo-ok fits

-- ---- timers

pub pop_timed : (w : World) → Timed w → Times (pop w)
pop_timed w h =
    ComesTo-bind (ComesTo-ends (Ends-found_or (least_entry w) _ refl)) λ entry found.
    ComesTo-then (ComesTo-any (refused_unless (int_le entry.timer.due w.clock) _)) λ _.
    ComesTo-then (ComesTo-any (refused_unless (nat_lt (length w.firings) (2 * w.limits.descriptors)) _)) λ _.
    ComesTo-bind (ComesTo-ends (Ends-row_of entry.descriptor w)) λ row at.
    ComesTo-ok (popped entry row at (least_is_there w entry found))
  where
    popped : (entry : Entry) (row : DescriptorRow) → slice_get w.descriptors entry.descriptor ≡ Some row
        → (r : DescriptorRow) × (slice_get w.descriptors entry.descriptor ≡ Some r) × (of_side entry.side r.timers ≡ Some entry.timer)
        → Timed (record (with_row entry.descriptor (unarmed row entry.side) w) { firings = w.firings ++ entry ∷ [] })
    popped entry row at there =
        let same : there.0 ≡ row = same_Some _ _ (sym there.1 ∙ at) in
        let armed : of_side entry.side row.timers ≡ Some entry.timer = ap (λ (r : DescriptorRow). of_side entry.side r.timers) (sym same) ∙ there.2 in
        record {
          timed = λ k s r is still_open wants.
              popped_timer w.descriptors w.firings row entry k s at armed
              (elim (slice_get-set_cases w.descriptors entry.descriptor row (unarmed row entry.side) k at) [
                | inl here ↦
                    let new : unarmed row entry.side ≡ r = same_Some _ _ (sym here.1 ∙ is) in
                    h.timed k s row (ap (slice_get w.descriptors) here.0 ∙ at) (ap (λ (x : DescriptorRow). x.descriptor.closing) new ∙ still_open)
                    (ap (λ (x : DescriptorRow). wants_timer s x.descriptor) new ∙ wants)
                | inr elsewhere ↦ h.timed k s r (sym elsewhere.1 ∙ is) still_open wants
              ]);
        }

abbrev pub fired : TimerFunction → Descriptor → Change
fired f d = then_if (then_if (quiet d) (covers_side f Read) (expire Read)) (covers_side f Write) (expire Write)

-- a firing that is run is stale or current
abbrev FiringIs : TimerFunction → ℕ → Descriptor → Option Change → Type 0
FiringIs f n d None = not (is_current f n d) ≡ true
FiringIs f n d (Some change) = (not (is_current f n d) ≡ false) × (change ≡ fired f d)

firing_is : (f : TimerFunction) (n : ℕ) (d : Descriptor) → ComesTo (FiringIs f n d) (change_by_firing f n d)
firing_is f n d =
    Rests-cases (not (is_current f n d)) (λ stale. ComesTo-ok stale) λ fresh.
    ComesTo-then (ComesTo-any (refused_unless (is_timed f d) _)) λ _.
    ComesTo-ok (fresh, refl)

read_is_alone : (combo : Bool) → TimerFunction.Read ≡ (if combo then TimerFunction.Both else TimerFunction.Read) → combo ≡ false
read_is_alone true e = cc
read_is_alone false e = refl

-- a side that needs a timer after a firing isn't the firing's, and needed one before
fired_wants : (f : TimerFunction) (d : Descriptor) → f ≡ timer_function (side_of_function f) d → (side : Side) → wants_timer side (fired f d).descriptor ≡ true
    → (side ≡ side_of_function f → ⊥) × (wants_timer side d ≡ true)
fired_wants TimerFunction.Read d is Read wants = cc
fired_wants TimerFunction.Read d is Write wants = (
  (λ e. cc),
  ap (λ c. is_positive d.deadlines.write && not c) (read_is_alone (is_combo d) is) ∙ wants,
)
fired_wants TimerFunction.Write d is Read wants = ((λ e. cc), wants)
fired_wants TimerFunction.Write d is Write wants = cc
fired_wants TimerFunction.Both d is Read wants = cc
fired_wants TimerFunction.Both d is Write wants = cc

-- what a firing leaves of a row
pub record FiredRow (f : TimerFunction) (d : Descriptor) : Type 0 where
  pub orders : (fired f d).orders ≡ []
  sequences : (fired f d).descriptor.sequences ≡ d.sequences
  closing : (fired f d).descriptor.closing ≡ d.closing

pub fired_row : (f : TimerFunction) (d : Descriptor) → FiredRow f d
fired_row TimerFunction.Read d = record { orders = refl; sequences = refl; closing = refl }
fired_row TimerFunction.Write d = record { orders = refl; sequences = refl; closing = refl }
fired_row TimerFunction.Both d = record { orders = refl; sequences = refl; closing = refl }

module _ (w : World) (i : ℕ) (e : Entry) (row : DescriptorRow) (ok : WellFormed w) (h : Timed w) (at : slice_get w.firings i ≡ Some e) (row_at : slice_get w.descriptors e.descriptor ≡ Some row) where
  fits_here : FiringFits row.descriptor e
  fits_here =
      let f = ok.timers.firings_fit i e at in
      subst (λ (r : DescriptorRow). FiringFits r.descriptor e) (same_Some _ _ (sym f.1 ∙ row_at)) f.2

  -- a current firing isn't stale
  stale_not_current : not (is_current e.timer.function e.timer.sequence row.descriptor) ≡ true → IsCurrent w.descriptors e → ⊥
  stale_not_current stale now =
      let same : of_side e.side row.descriptor.sequences ≡ e.timer.sequence =
      same_Some _ _ (sym (ap (option_map (λ (r : DescriptorRow). of_side e.side r.descriptor.sequences)) row_at) ∙ now)
      in
      true≢false
      (sym (eq-eqb e.timer.sequence (of_side (side_of_function e.timer.function) row.descriptor.sequences) (sym same ∙ ap (λ s. of_side s row.descriptor.sequences) fits_here.side)) ∙ not_true _ stale)

  stale_timed : not (is_current e.timer.function e.timer.sequence row.descriptor) ≡ true → Timed (record w { firings = remove w.firings i })
  stale_timed stale =
      record { timed = λ k s r is still_open wants. removed_firing w.descriptors w.firings i e k s at (λ _ _ now. stale_not_current stale now) (h.timed k s r is still_open wants) }

  runs_timed : not (is_current e.timer.function e.timer.sequence row.descriptor) ≡ false → (new : DescriptorRow) → new.timers ≡ row.timers → new.descriptor ≡ (fired e.timer.function row.descriptor).descriptor
      → DeadlinesTimed (set w.descriptors e.descriptor new) (remove w.firings i)
  runs_timed fresh new timers descriptor =
      record {
        timed = λ k s r is still_open wants.
            elim (slice_get-set_cases w.descriptors e.descriptor row new k row_at) [
              | inl here ↦
                  let same : new ≡ r = same_Some _ _ (sym here.1 ∙ is) in
                  let left = fired_row e.timer.function row.descriptor in
                  let wanted = fired_wants e.timer.function row.descriptor function s (ap (wants_timer s) (sym descriptor) ∙ ap (λ (x : DescriptorRow). wants_timer s x.descriptor) same ∙ wants) in
                  carried w.descriptors (remove w.firings i) e.descriptor row new k s row_at
                  (λ _. (ap (of_side s) timers, ap (λ (x : Descriptor). of_side s x.sequences) descriptor ∙ ap (of_side s) left.sequences))
                  (removed_firing w.descriptors w.firings i e k s at (λ _ own _. wanted.0 (sym own ∙ fits_here.side))
                  (h.timed k s row (ap (slice_get w.descriptors) here.0 ∙ row_at)
                  (sym left.closing ∙ ap (λ (x : Descriptor). x.closing) (sym descriptor) ∙ ap (λ (x : DescriptorRow). x.descriptor.closing) same ∙ still_open) wanted.1))
              | inr there ↦
                  carried w.descriptors (remove w.firings i) e.descriptor row new k s row_at (λ here. absurd (there.0 here))
                  (removed_firing w.descriptors w.firings i e k s at (λ own _ _. there.0 (sym own)) (h.timed k s r (sym there.1 ∙ is) still_open wants))
            ];
      }
    where
      now : e.timer.sequence ≡ of_side e.side row.descriptor.sequences
      now = current_is e.timer.function e.timer.sequence row.descriptor fresh ∙ ap (λ s. of_side s row.descriptor.sequences) (sym fits_here.side)

      function : e.timer.function ≡ timer_function (side_of_function e.timer.function) row.descriptor
      function = (fits_here.current now).function ∙ ap (λ s. timer_function s row.descriptor) fits_here.side

  fired_timed : (change : Option Change) → FiringIs e.timer.function e.timer.sequence row.descriptor change → Times (fired_with e.descriptor row change (record w { firings = remove w.firings i }))
  fired_timed None stale = ComesTo-ok (stale_timed stale)
  fired_timed (Some change) is =
      ComesTo-bind
      (ComesTo-bind (no_orders change.orders (row.timers, w.next_arming) (ap (λ (c : Change). c.orders) is.1 ∙ (fired_row e.timer.function row.descriptor).orders)) λ left timers.
      ComesTo-ok {P = Timed}
      (wakes_timed change.woken _ (runs_timed is.0 (record { descriptor = change.descriptor; timers = left.0 }) timers (ap (λ (c : Change). c.descriptor) is.1))))
      λ next fits. ComesTo-ok fits

pub fire_timed : (w : World) (i : ℕ) → WellFormed w → Timed w → Times (fire i w)
fire_timed w i ok h =
    ComesTo-bind (ComesTo-ends (Ends-found_or (slice_get w.firings i) _ refl)) λ entry at.
    ComesTo-bind (ComesTo-ends (Ends-row_of entry.descriptor w)) λ row row_at.
    ComesTo-bind (firing_is entry.timer.function entry.timer.sequence row.descriptor) λ change is.
    fired_timed w i entry row ok h at row_at change is

-- ---- every kind

by_aside : {w : World} {o : Outcome} → Timed w → Asides w o → Times o
by_aside h a = record { value = λ left is. aside_timed (a.value left is) h }

pub step_timed : (w : World) (step : Step) → WellFormed w → Timed w → Times (outcome w step)
step_timed w Step.Spawn ok h = by_aside h (spawn_aside w)
step_timed w (Step.Exit g) ok h = by_aside h (exit_aside w g)
step_timed w (Step.SockOpen rc wc) ok h = by_aside h (sockopen_aside w rc wc)
step_timed w (Step.Arrive s bytes) ok h = by_aside h (arrive_aside w s bytes)
step_timed w (Step.PeerClose s) ok h = by_aside h (peerclose_aside w s)
step_timed w (Step.SysRead g s n) ok h = by_aside h (sysread_aside w g s n)
step_timed w (Step.SysWrite g s bytes) ok h = by_aside h (syswrite_aside w g s bytes)
step_timed w (Step.Drain s n) ok h = by_aside h (drain_aside w s n)
step_timed w (Step.Incref g s) ok h = by_aside h (incref_aside w g s)
step_timed w (Step.IncrefClose g s) ok h = by_aside h (increfclose_aside w g s)
step_timed w (Step.Decref g s) ok h = by_aside h (decref_aside w g s)
step_timed w (Step.RwLock g s side) ok h = by_aside h (rwlock_aside w g s side)
step_timed w (Step.RwUnlock g s side) ok h = by_aside h (rwunlock_aside w g s side)
step_timed w (Step.Acquire g) ok h = by_aside h (acquire_aside w g)
step_timed w (Step.Release g) ok h = by_aside h (release_aside w g)
step_timed w (Step.PollOpen g s) ok h = pollopen_timed w g s h
step_timed w (Step.PollClose g d) ok h = pollclose_timed w g d h
step_timed w (Step.PollReset g d side) ok h = pollreset_timed w g d side h
step_timed w (Step.WaitBegin g d side) ok h = by_aside h (waitbegin_aside w g d side)
step_timed w (Step.BlockArm g) ok h = blockarm_timed w g h
step_timed w (Step.BlockCheck g) ok h = blockcheck_timed w g h
step_timed w (Step.ParkCommit g) ok h = parkcommit_timed w g h
step_timed w (Step.BlockSwap g) ok h = blockswap_timed w g h
step_timed w (Step.WaitCheck g) ok h = by_aside h (waitcheck_aside w g)
step_timed w (Step.SetDeadline g d mode t) ok h = setdeadline_timed w g d mode t h
step_timed w (Step.Evict g d) ok h = evict_timed w g d h
step_timed w (Step.PollEvent d tag mode error) ok h = pollevent_timed w d tag mode error h
step_timed w (Step.Tick t) ok h = by_aside h (tick_aside w t)
step_timed w Step.Pop ok h = pop_timed w h
step_timed w (Step.Fire i) ok h = fire_timed w i ok h
step_timed w (Step.CloseWrite g s) ok h = by_aside h (closewrite_aside w g s)

pub step_keeps_timers : (w : World) (step : Step) (answer : Answer) (next : World) → WellFormed w → Timed w → outcome w step ≡ Ok (answer, next) → Timed next
step_keeps_timers w step answer next ok h e = (step_timed w step ok h).value (answer, next) e
