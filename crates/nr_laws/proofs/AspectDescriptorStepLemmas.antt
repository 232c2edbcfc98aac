-- Steps on descriptors, waits, deadlines and timers change only the aspects that their kinds allow.
use Rattle.std.proofs.Common.{◌≡◌, ℕ, Bool, true, false, ◌&&◌, ◌||◌, not, List, [], ◌∷◌, ◌++◌, length, Option, Some, None, Result, Ok, refl, sym, ap, subst, ◌∙◌}
use Rattle.std.specs.Prelude.{slice_get, if◌then◌else◌, ◌==◌, nat_lt, int_lt, int_le, ◌*◌, ℤ}
use Rattle.std.specs.Ordering.{int_eq}
use Rattle.nr_rev.specs.declared.descriptor.Descriptor.{Descriptor}
use Rattle.nr_rev.specs.declared.descriptor.DescriptorRow.{DescriptorRow}
use Rattle.nr_rev.specs.declared.descriptor.WaitWord.{WaitWord}
use Rattle.nr_rev.specs.declared.kind.Kind.{Kind}
use Rattle.nr_rev.specs.declared.aspect.Aspect.{Aspect}
use Rattle.nr_rev.specs.declared.aspect.Aspect.TheVariants.{Waiters, Timers, Goroutines, WaitWords}
use Rattle.nr_rev.specs.declared.refusal.Refusal.{Refusal}
use Rattle.nr_rev.specs.declared.sides.Mode.{Mode}
use Rattle.nr_rev.specs.declared.sides.Side.{Side}
use Rattle.nr_rev.specs.declared.sides.Side.TheVariants.{Read, Write}
use Rattle.nr_rev.specs.declared.sides.Sides.{Sides}
use Rattle.nr_rev.specs.declared.status.Status.{Status}
use Rattle.nr_rev.specs.declared.timer.Timer.{Timer}
use Rattle.nr_rev.specs.declared.timer.TimerFunction.{TimerFunction}
use Rattle.nr_rev.specs.declared.timer.TimerOrder.{TimerOrder}
use Rattle.nr_rev.specs.Descriptor.{Change, quiet, and_then, then_if, unblocked, both_raised, opened_for, closed, deadline_from, with_deadlines, with_wait_word, timer_reset, wants_timer, timer_follows, is_expired, is_combo, same_bool, is_current, is_timed, expired_unblocked, change_by_deadline, stop_if, change_by_evict, expire, change_by_firing, change_by_event, check}
use Rattle.nr_rev.specs.Aspect.{is_among, changed_aspects}
use Rattle.nr_rev.specs.Refusing.{refused_if, refused_unless, found_or, raised_sequence}
use Rattle.nr_rev.specs.Sides.{of_side, with_side, twice, covers_side, names_side}
use Rattle.nr_rev.specs.Step.{idle, status_of, socket_of, row_of, open_row_of, taken, pollopen, pollclose, after_orders, after_wakes, after_change, evict, pollevent, pollreset, waitbegin, entering_of, armed_of, parking_of, swapping_of, checking_of, with_wait, armed_by, blockarm, blockcheck, committed_by, parkcommit, swapped_by, blockswap, waitcheck, setdeadline, tick, pop, fired_with, fire}
use Rattle.nr_rev.specs.World.{World, is_free_number, is_waited, least_entry, with_descriptor}
use Rattle.nr_laws.proofs.LookupLemmas.{Ends-row_of}
use Rattle.nr_laws.proofs.AspectLemmas.{ComesTo, Leaves, Changes, DescriptorLeaves, ComesTo-ok, ComesTo-refused, ComesTo-ends, ComesTo-any, ComesTo-bind, ComesTo-then, ComesTo-either, not_both, Changes-after, Leaves-same, Leaves-then, Leaves-if, goroutines_set, waiters_set, firings_set, clock_set, free_set, next_arming_set, row_set, row_pushed}

-- ---- the parts of a descriptor's row that a step doesn't change

pub ComesTo-open_row_of : (d : ℕ) (w : World) → ComesTo (λ (row : DescriptorRow). slice_get w.descriptors d ≡ Some row) (open_row_of d w)
ComesTo-open_row_of d w = ComesTo-then (ComesTo-any (refused_if (is_free_number d w.free) _)) λ _. ComesTo-ends (Ends-row_of d w)

-- a descriptor's state changes, but not its timers
descriptor_set : (aspects : List Aspect) (w : World) (d : ℕ) (row : DescriptorRow) (descriptor : Descriptor) → slice_get w.descriptors d ≡ Some row → DescriptorLeaves aspects row.descriptor descriptor
    → Leaves aspects w (with_descriptor d row descriptor w)
descriptor_set aspects w d row descriptor at kept = row_set aspects w d row _ at kept (λ _. refl)

-- a word changes
word_set : (aspects : List Aspect) (w : World) (d : ℕ) (side : Side) (word : WaitWord) (row : DescriptorRow) → is_among aspects WaitWords ≡ true → slice_get w.descriptors d ≡ Some row
    → Leaves aspects w (with_descriptor d row (with_wait_word side word row.descriptor) w)
word_set aspects w d side word row may at =
    descriptor_set aspects w d row _ at (record { words = λ e. not_both _ may e; deadlines = λ _. refl; sequences = λ _. refl; tag = λ _. refl; info = λ _. refl })

-- a goroutine's status changes too
wait_set : (aspects : List Aspect) (w : World) (g : ℕ) (status : Status) (d : ℕ) (side : Side) (word : WaitWord) (row : DescriptorRow) → is_among aspects WaitWords ≡ true → is_among aspects Goroutines ≡ true
    → slice_get w.descriptors d ≡ Some row → Leaves aspects w (with_wait g status d side word row w)
wait_set aspects w g status d side word row may may_move at = Leaves-then (word_set aspects w d side word row may at) (goroutines_set aspects _ _ may_move)

-- ---- opening and closing

taken_leaves : (free : List ℕ) (w : World) → ComesTo (λ (left : ℕ × World). Leaves (changed_aspects Kind.PollOpen) w left.1) (taken free w)
taken_leaves (d ∷ free) w = ComesTo-ok (free_set _ w free)
taken_leaves [] w =
    ComesTo-then (ComesTo-any (refused_unless (nat_lt (length w.descriptors) w.limits.descriptors) _)) λ _.
    ComesTo-ok (row_pushed _ w (record { words = refl; deadlines = refl; sequences = refl; tags = refl; summaries = refl }))

pub pollopen_changes : (w : World) (g s : ℕ) → Changes (changed_aspects Kind.PollOpen) w (pollopen g s w)
pollopen_changes w g s =
    ComesTo-then (ComesTo-any (idle g w)) λ _.
    ComesTo-bind (ComesTo-any (socket_of s w)) λ _ _.
    ComesTo-bind (taken_leaves w.free w) λ place takes.
    ComesTo-bind (ComesTo-ends (Ends-row_of place.0 place.1)) λ row at.
    ComesTo-bind (ComesTo-any (opened_for s row.descriptor)) λ descriptor _.
    ComesTo-ok (Leaves-then takes (descriptor_set _ place.1 place.0 row descriptor at (record { words = λ e. cc; deadlines = λ e. cc; sequences = λ e. cc; tag = λ e. cc; info = λ e. cc })))

closed_leaves : (d : Descriptor) → ComesTo (DescriptorLeaves (changed_aspects Kind.PollClose) d) (closed d)
closed_leaves d =
    ComesTo-bind (ComesTo-any (raised_sequence d.fdseq)) λ fdseq _.
    ComesTo-ok (record { words = λ _. refl; deadlines = λ _. refl; sequences = λ _. refl; tag = λ e. cc; info = λ _. refl })

pub pollclose_changes : (w : World) (g d : ℕ) → Changes (changed_aspects Kind.PollClose) w (pollclose g d w)
pollclose_changes w g d =
    ComesTo-then (ComesTo-any (idle g w)) λ _.
    ComesTo-bind (ComesTo-open_row_of d w) λ row at.
    ComesTo-then (ComesTo-any (refused_unless row.descriptor.closing _)) λ _.
    ComesTo-then (ComesTo-any (refused_if (is_waited d Read w.goroutines || is_waited d Write w.goroutines) _)) λ _.
    ComesTo-bind (closed_leaves row.descriptor) λ descriptor kept.
    ComesTo-ok (Leaves-then (descriptor_set _ w d row descriptor at kept) (free_set _ _ _))

-- ---- waits

pub pollreset_changes : (w : World) (g d : ℕ) (side : Side) → Changes (changed_aspects Kind.PollReset) w (pollreset g d side w)
pollreset_changes w g d side =
    ComesTo-then (ComesTo-any (idle g w)) λ _.
    ComesTo-bind (ComesTo-open_row_of d w) λ row at.
    ComesTo-then (ComesTo-any (refused_if ((check side row.descriptor == 0) && is_waited d side w.goroutines) _)) λ _.
    ComesTo-ok (Leaves-if (check side row.descriptor == 0) (word_set _ w d side WaitWord.Nil row refl at) Leaves-same)

pub waitbegin_changes : (w : World) (g d : ℕ) (side : Side) → Changes (changed_aspects Kind.WaitBegin) w (waitbegin g d side w)
waitbegin_changes w g d side =
    ComesTo-then (ComesTo-any (idle g w)) λ _.
    ComesTo-bind (ComesTo-open_row_of d w) λ row at.
    ComesTo-then (ComesTo-any (refused_if ((check side row.descriptor == 0) && is_waited d side w.goroutines) _)) λ _.
    ComesTo-ok (Leaves-if (check side row.descriptor == 0) (goroutines_set _ w _ refl) Leaves-same)

armed_leaves : (g d : ℕ) (side : Side) (word : WaitWord) (row : DescriptorRow) (w : World) → slice_get w.descriptors d ≡ Some row → Changes (changed_aspects Kind.BlockArm) w (armed_by g d side word row w)
armed_leaves g d side WaitWord.Nil row w at = ComesTo-ok (wait_set _ w g _ d side WaitWord.Wait row refl refl at)
armed_leaves g d side WaitWord.Ready row w at = ComesTo-ok (wait_set _ w g _ d side WaitWord.Nil row refl refl at)
armed_leaves g d side _ row w at = ComesTo-refused

pub blockarm_changes : (w : World) (g : ℕ) → Changes (changed_aspects Kind.BlockArm) w (blockarm g w)
blockarm_changes w g =
    ComesTo-bind (ComesTo-any (status_of g w)) λ status _.
    ComesTo-bind (ComesTo-any (entering_of status)) λ place _.
    ComesTo-bind (ComesTo-ends (Ends-row_of place.0 w)) λ row at.
    armed_leaves g place.0 place.1 (of_side place.1 row.descriptor.words) row w at

pub blockcheck_changes : (w : World) (g : ℕ) → Changes (changed_aspects Kind.BlockCheck) w (blockcheck g w)
blockcheck_changes w g =
    ComesTo-bind (ComesTo-any (status_of g w)) λ status _.
    ComesTo-bind (ComesTo-any (armed_of status)) λ place _.
    ComesTo-bind (ComesTo-any (row_of place.0 w)) λ row _.
    ComesTo-ok (goroutines_set _ w _ refl)

committed_leaves : (g d : ℕ) (side : Side) (word : WaitWord) (row : DescriptorRow) (w : World) → slice_get w.descriptors d ≡ Some row
    → Leaves (changed_aspects Kind.ParkCommit) w (committed_by g d side word row w).1
committed_leaves g d side WaitWord.Wait row w at = Leaves-then (wait_set _ w g _ d side (WaitWord.Held g) row refl refl at) (waiters_set _ _ _ refl)
committed_leaves g d side _ row w at = goroutines_set _ w _ refl

pub parkcommit_changes : (w : World) (g : ℕ) → Changes (changed_aspects Kind.ParkCommit) w (parkcommit g w)
parkcommit_changes w g =
    ComesTo-bind (ComesTo-any (status_of g w)) λ status _.
    ComesTo-bind (ComesTo-any (parking_of status)) λ place _.
    ComesTo-bind (ComesTo-ends (Ends-row_of place.0 w)) λ row at.
    ComesTo-ok (committed_leaves g place.0 place.1 (of_side place.1 row.descriptor.words) row w at)

swapped_leaves : (g d : ℕ) (side : Side) (word : WaitWord) (row : DescriptorRow) (w : World) → slice_get w.descriptors d ≡ Some row
    → Leaves (changed_aspects Kind.BlockSwap) w (swapped_by g d side word row w).1
swapped_leaves g d side WaitWord.Ready row w at = wait_set _ w g _ d side WaitWord.Nil row refl refl at
swapped_leaves g d side _ row w at = wait_set _ w g _ d side WaitWord.Nil row refl refl at

pub blockswap_changes : (w : World) (g : ℕ) → Changes (changed_aspects Kind.BlockSwap) w (blockswap g w)
blockswap_changes w g =
    ComesTo-bind (ComesTo-any (status_of g w)) λ status _.
    ComesTo-bind (ComesTo-any (swapping_of status)) λ place _.
    ComesTo-bind (ComesTo-ends (Ends-row_of place.0 w)) λ row at.
    ComesTo-ok (swapped_leaves g place.0 place.1 (of_side place.1 row.descriptor.words) row w at)

pub waitcheck_changes : (w : World) (g : ℕ) → Changes (changed_aspects Kind.WaitCheck) w (waitcheck g w)
waitcheck_changes w g =
    ComesTo-bind (ComesTo-any (status_of g w)) λ status _.
    ComesTo-bind (ComesTo-any (checking_of status)) λ place _.
    ComesTo-bind (ComesTo-any (row_of place.0 w)) λ row _.
    ComesTo-ok (goroutines_set _ w _ refl)

-- ---- changes to a descriptor and its timers

-- a change modifies only these aspects of the descriptor, and has timer orders only if Timers is
-- among them
pub record ChangeLeaves (aspects : List Aspect) (old : Descriptor) (change : Change) : Type 0 where
  pub descriptor : DescriptorLeaves aspects old change.descriptor
  pub orders : is_among aspects Timers ≡ false → change.orders ≡ []

DescriptorLeaves-then : {aspects : List Aspect} {old between new : Descriptor} → DescriptorLeaves aspects old between → DescriptorLeaves aspects between new → DescriptorLeaves aspects old new
DescriptorLeaves-then a b =
    record {
      words = λ e. b.words e ∙ a.words e;
      deadlines = λ e. b.deadlines e ∙ a.deadlines e;
      sequences = λ e. b.sequences e ∙ a.sequences e;
      tag = λ e. b.tag e ∙ a.tag e;
      info = λ e. b.info e ∙ a.info e;
    }

quiet_leaves : {aspects : List Aspect} {old new : Descriptor} → DescriptorLeaves aspects old new → ChangeLeaves aspects old (quiet new)
quiet_leaves kept = record { descriptor = kept; orders = λ _. refl }

descriptor_same : (aspects : List Aspect) (d : Descriptor) → DescriptorLeaves aspects d d
descriptor_same aspects d = record { words = λ _. refl; deadlines = λ _. refl; sequences = λ _. refl; tag = λ _. refl; info = λ _. refl }

and_then_leaves : (aspects : List Aspect) (old : Descriptor) (first : Change) (next : Descriptor → Change) → ChangeLeaves aspects old first → ChangeLeaves aspects first.descriptor (next first.descriptor)
    → ChangeLeaves aspects old (and_then first next)
and_then_leaves aspects old first next a b =
    record {
      descriptor = DescriptorLeaves-then a.descriptor b.descriptor;
      orders = λ e. ap (λ os. os ++ (next first.descriptor).orders) (a.orders e) ∙ b.orders e;
    }

then_if_leaves : (aspects : List Aspect) (old : Descriptor) (first : Change) (test : Bool) (next : Descriptor → Change) → ChangeLeaves aspects old first
    → ChangeLeaves aspects first.descriptor (next first.descriptor) → ChangeLeaves aspects old (then_if first test next)
then_if_leaves aspects old first true next a b = and_then_leaves aspects old first next a b
then_if_leaves aspects old first false next a b = a

unblocked_leaves : (aspects : List Aspect) (ioready : Bool) (side : Side) (d : Descriptor) → is_among aspects WaitWords ≡ true → ChangeLeaves aspects d (unblocked ioready side d)
unblocked_leaves aspects ioready side d may =
    record { descriptor = record { words = λ e. not_both _ may e; deadlines = λ _. refl; sequences = λ _. refl; tag = λ _. refl; info = λ _. refl }; orders = λ _. refl }

-- carrying out the orders doesn't change the timers unless Timers is among the aspects
orders_leave : (aspects : List Aspect) (orders : List TimerOrder) (before : Sides (Option Timer) × ℕ) → (is_among aspects Timers ≡ false → orders ≡ [])
    → ComesTo (λ (left : Sides (Option Timer) × ℕ). is_among aspects Timers ≡ false → left.0 ≡ before.0) (after_orders orders before)
orders_leave aspects orders before none =
    record { value = λ left is e. sym (ap (λ (x : Sides (Option Timer) × ℕ). x.0) (same _ _ (ap (λ os. after_orders os before) (sym (none e)) ∙ is))) }
  where
    same : (a b : Sides (Option Timer) × ℕ) → ◌≡◌ {A = Result (Sides (Option Timer) × ℕ) Refusal} (Ok a) (Ok b) → a ≡ b
    same a b e = cc

wakes_leave : (aspects : List Aspect) (gs : List ℕ) (w : World) → is_among aspects Goroutines ≡ true → is_among aspects Waiters ≡ true → Leaves aspects w (after_wakes gs w)
wakes_leave aspects [] w may may_count = Leaves-same
wakes_leave aspects (g ∷ gs) w may may_count =
    Leaves-then (Leaves-then (goroutines_set aspects w _ may) (waiters_set aspects _ _ may_count)) (wakes_leave aspects gs _ may may_count)

change_leaves : (aspects : List Aspect) (d : ℕ) (row : DescriptorRow) (change : Change) (w : World) → is_among aspects Goroutines ≡ true → is_among aspects Waiters ≡ true → slice_get w.descriptors d ≡ Some row
    → ChangeLeaves aspects row.descriptor change → ComesTo (Leaves aspects w) (after_change d row change w)
change_leaves aspects d row change w may may_count at kept =
    ComesTo-bind (orders_leave aspects change.orders (row.timers, w.next_arming) kept.orders) λ left timers.
    ComesTo-ok (Leaves-then (row_set aspects w d row _ at kept.descriptor timers) (Leaves-then (next_arming_set aspects _ _) (wakes_leave aspects change.woken _ may may_count)))

evict_leaves : (d : Descriptor) → ComesTo (ChangeLeaves (changed_aspects Kind.Evict) d) (change_by_evict d)
evict_leaves d =
    ComesTo-then (ComesTo-any (refused_if d.closing _)) λ _.
    ComesTo-bind (ComesTo-any (both_raised d.sequences)) λ sequences _.
    let stopped : Change =
    record {
      descriptor = record d { closing = true; sequences = sequences; running = twice false };
      orders = stop_if d.running.read Read ++ stop_if d.running.write Write;
      woken = [];
    }
    in
    ComesTo-ok
    (and_then_leaves _ d _ (unblocked false Write)
    (and_then_leaves _ d stopped (unblocked false Read)
    (record { descriptor = record { words = λ _. refl; deadlines = λ _. refl; sequences = λ e. cc; tag = λ _. refl; info = λ e. cc }; orders = λ e. cc })
    (unblocked_leaves _ false Read _ refl))
    (unblocked_leaves _ false Write _ refl))

pub evict_changes : (w : World) (g d : ℕ) → Changes (changed_aspects Kind.Evict) w (evict g d w)
evict_changes w g d =
    ComesTo-then (ComesTo-any (idle g w)) λ _.
    ComesTo-bind (ComesTo-open_row_of d w) λ row at.
    ComesTo-bind (evict_leaves row.descriptor) λ change kept.
    ComesTo-bind (change_leaves _ d row change w refl refl at kept) λ next leaves.
    ComesTo-ok leaves

event_leaves : (mode : Mode) (error : Bool) (d : Descriptor) → ChangeLeaves (changed_aspects Kind.PollEvent) d (change_by_event mode error d)
event_leaves mode error d =
    then_if_leaves _ d _ (names_side mode Write) (unblocked true Write)
    (then_if_leaves _ d _ (names_side mode Read) (unblocked true Read)
    (quiet_leaves (record { words = λ _. refl; deadlines = λ _. refl; sequences = λ _. refl; tag = λ _. refl; info = λ e. cc }))
    (unblocked_leaves _ true Read _ refl))
    (unblocked_leaves _ true Write _ refl)

pub pollevent_changes : (w : World) (d tag : ℕ) (mode : Mode) (error : Bool) → Changes (changed_aspects Kind.PollEvent) w (pollevent d tag mode error w)
pollevent_changes w d tag mode error =
    ComesTo-bind (ComesTo-ends (Ends-row_of d w)) λ row at.
    ComesTo-either (is_free_number d w.free || not (tag == row.descriptor.fdseq)) (ComesTo-ok Leaves-same)
    (ComesTo-bind (change_leaves _ d row (change_by_event mode error row.descriptor) w refl refl at (event_leaves mode error row.descriptor)) λ next leaves. ComesTo-ok leaves)

-- ---- deadlines

reset_leaves : (side : Side) (d : Descriptor) → ChangeLeaves (changed_aspects Kind.SetDeadline) d (timer_reset side d)
reset_leaves side d = record { descriptor = record { words = λ _. refl; deadlines = λ _. refl; sequences = λ _. refl; tag = λ _. refl; info = λ e. cc }; orders = λ e. cc }

resets_or_stays : (test : Bool) (side : Side) (d : Descriptor) → ChangeLeaves (changed_aspects Kind.SetDeadline) d (if test then timer_reset side d else quiet d)
resets_or_stays true side d = reset_leaves side d
resets_or_stays false side d = quiet_leaves (descriptor_same _ d)

follows_leaves : (side : Side) (old d : Descriptor) → ComesTo (ChangeLeaves (changed_aspects Kind.SetDeadline) d) (timer_follows side old d)
follows_leaves side old d =
    ComesTo-either (not (of_side side d.running)) (ComesTo-ok (resets_or_stays (wants_timer side d) side d))
    (ComesTo-either (int_eq (of_side side old.deadlines) (of_side side d.deadlines) && same_bool (is_combo old) (is_combo d)) (ComesTo-ok (quiet_leaves (descriptor_same _ d)))
    (ComesTo-bind (ComesTo-any (raised_sequence (of_side side d.sequences))) λ sequence _.
    ComesTo-ok (record { descriptor = record { words = λ _. refl; deadlines = λ _. refl; sequences = λ e. cc; tag = λ _. refl; info = λ e. cc }; orders = λ e. cc })))

expired_leaves : (old : Descriptor) (change : Change) → ChangeLeaves (changed_aspects Kind.SetDeadline) old change → ChangeLeaves (changed_aspects Kind.SetDeadline) old (expired_unblocked change)
expired_leaves old change kept =
    then_if_leaves _ old _ (is_expired Write change.descriptor) (unblocked false Write)
    (then_if_leaves _ old _ (is_expired Read change.descriptor) (unblocked false Read) kept (unblocked_leaves _ false Read _ refl))
    (unblocked_leaves _ false Write _ refl)

deadline_leaves : (clock : ℤ) (mode : Mode) (t : ℤ) (old : Descriptor) → ComesTo (ChangeLeaves (changed_aspects Kind.SetDeadline) old) (change_by_deadline clock mode t old)
deadline_leaves clock mode t old =
    ComesTo-either old.closing (ComesTo-ok (quiet_leaves (descriptor_same _ old)))
    (ComesTo-bind (follows_leaves Read old (with_deadlines mode (deadline_from clock t) old)) λ read reads.
    ComesTo-bind (follows_leaves Write old read.descriptor) λ write writes.
    ComesTo-ok
    (expired_leaves old _
    (and_then_leaves _ old read (λ _. write)
    (record {
      descriptor = DescriptorLeaves-then (record { words = λ _. refl; deadlines = λ e. cc; sequences = λ _. refl; tag = λ _. refl; info = λ e. cc }) reads.descriptor;
      orders = λ e. cc;
    })
    writes)))

pub setdeadline_changes : (w : World) (g d : ℕ) (mode : Mode) (t : ℤ) → Changes (changed_aspects Kind.SetDeadline) w (setdeadline g d mode t w)
setdeadline_changes w g d mode t =
    ComesTo-then (ComesTo-any (idle g w)) λ _.
    ComesTo-bind (ComesTo-open_row_of d w) λ row at.
    ComesTo-bind (deadline_leaves w.clock mode t row.descriptor) λ change kept.
    ComesTo-bind (change_leaves _ d row change w refl refl at kept) λ next leaves.
    ComesTo-ok leaves

-- ---- timers

pub tick_changes : (w : World) (t : ℤ) → Changes (changed_aspects Kind.Tick) w (tick t w)
tick_changes w t =
    ComesTo-then (ComesTo-any (refused_if (int_lt t w.clock) _)) λ _.
    ComesTo-ok (clock_set _ w t refl)

pub pop_changes : (w : World) → Changes (changed_aspects Kind.Pop) w (pop w)
pop_changes w =
    ComesTo-bind (ComesTo-any (found_or (least_entry w) _)) λ entry _.
    ComesTo-then (ComesTo-any (refused_unless (int_le entry.timer.due w.clock) _)) λ _.
    ComesTo-then (ComesTo-any (refused_unless (nat_lt (length w.firings) (2 * w.limits.descriptors)) _)) λ _.
    ComesTo-bind (ComesTo-ends (Ends-row_of entry.descriptor w)) λ row at.
    ComesTo-ok
    (Leaves-then (row_set _ w entry.descriptor row (record row { timers = with_side entry.side None row.timers }) at (descriptor_same _ row.descriptor) (λ e. cc)) (firings_set _ _ _ refl))

expire_leaves : (side : Side) (d : Descriptor) → ChangeLeaves (changed_aspects Kind.Fire) d (expire side d)
expire_leaves side d = record { descriptor = record { words = λ e. cc; deadlines = λ e. cc; sequences = λ _. refl; tag = λ _. refl; info = λ e. cc }; orders = λ _. refl }

-- a firing that isn't stale modifies only these aspects of the descriptor
abbrev FiringLeaves : Descriptor → Option Change → Type 0
FiringLeaves d change = (x : Change) → change ≡ Some x → ChangeLeaves (changed_aspects Kind.Fire) d x

same_some : (x y : Change) → ◌≡◌ {A = Option Change} (Some x) (Some y) → x ≡ y
same_some x y e = cc

firing_leaves : (function : TimerFunction) (sequence : ℕ) (d : Descriptor) → ComesTo (FiringLeaves d) (change_by_firing function sequence d)
firing_leaves function sequence d =
    ComesTo-either (not (is_current function sequence d)) (ComesTo-ok (λ x e. cc))
    (ComesTo-then (ComesTo-any (refused_unless (is_timed function d) _)) λ _.
    ComesTo-ok
    (λ x e. subst (ChangeLeaves (changed_aspects Kind.Fire) d) (same_some _ x e)
    (then_if_leaves _ d _ (covers_side function Write) (expire Write)
    (then_if_leaves _ d _ (covers_side function Read) (expire Read) (quiet_leaves (descriptor_same _ d)) (expire_leaves Read _))
    (expire_leaves Write _))))

fired_leaves : (d : ℕ) (row : DescriptorRow) (change : Option Change) (w : World) → slice_get w.descriptors d ≡ Some row → FiringLeaves row.descriptor change
    → Changes (changed_aspects Kind.Fire) w (fired_with d row change w)
fired_leaves d row None w at kept = ComesTo-ok Leaves-same
fired_leaves d row (Some change) w at kept = ComesTo-bind (change_leaves _ d row change w refl refl at (kept change refl)) λ next leaves. ComesTo-ok leaves

pub fire_changes : (w : World) (i : ℕ) → Changes (changed_aspects Kind.Fire) w (fire i w)
fire_changes w i =
    ComesTo-bind (ComesTo-any (found_or (slice_get w.firings i) _)) λ entry _.
    ComesTo-bind (ComesTo-ends (Ends-row_of entry.descriptor w)) λ row at.
    ComesTo-bind (firing_leaves entry.timer.function entry.timer.sequence row.descriptor) λ change kept.
    Changes-after (firings_set _ w _ refl) (fired_leaves entry.descriptor row change _ at kept)
