-- An event makes its sides ready, and only three kinds of steps consume the readiness notification.
use Rattle.std.proofs.Common.{◌≡◌, ℕ, length, Bool, true, false, not, ◌&&◌, ◌||◌, List, [], ◌∷◌, ◌++◌, ◌⊎◌, inl, inr, Option, Some, None, Ok, refl, sym, ap, subst, ◌∙◌, true≢false}
use Rattle.std.specs.Prelude.{◌==◌, if◌then◌else◌, nat_lt, remove, slice_get, slice_set, option_map, ℤ, negsuc}
use Rattle.std.specs.Ordering.{int_eq}
use Rattle.std.proofs.lemmas.Option.{none-some, same_Some}
use Rattle.nr_rev.specs.declared.answer.Answer.{Answer}
use Rattle.nr_rev.specs.declared.answer.Answer.TheVariants as answers
use Rattle.nr_rev.specs.declared.cell.Cell.{Cell}
use Rattle.nr_rev.specs.declared.cell_value.CellValue.{CellValue}
use Rattle.nr_rev.specs.declared.descriptor.Descriptor.{Descriptor}
use Rattle.nr_rev.specs.declared.descriptor.DescriptorRow.{DescriptorRow}
use Rattle.nr_rev.specs.declared.descriptor.WaitWord.{WaitWord}
use Rattle.nr_rev.specs.declared.descriptor.WaitWord.TheVariants.{Nil, Ready, Wait, Held}
use Rattle.nr_rev.specs.declared.kind.Kind.{Kind}
use Rattle.nr_rev.specs.declared.refusal.Refusal.{Refusal}
use Rattle.nr_rev.specs.declared.sides.Mode.{Mode}
use Rattle.nr_rev.specs.declared.sides.Side.{Side}
use Rattle.nr_rev.specs.declared.sides.Side.TheVariants.{Read, Write}
use Rattle.nr_rev.specs.declared.status.Status.{Status}
use Rattle.nr_rev.specs.declared.status.Status.TheVariants.{Armed, Idle}
use Rattle.nr_rev.specs.declared.step.Step.{Step}
use Rattle.nr_rev.specs.declared.timer.TimerFunction.{TimerFunction}
use Rattle.nr_rev.specs.Aspect.{can_change}
use Rattle.nr_rev.specs.Cell.{cell, value_or_absent}
use Rattle.nr_rev.specs.Descriptor.{Change, both_raised, change_by_deadline, change_by_event, change_by_evict, change_by_firing, check, deadline_from, expire, expired_unblocked, and_then, is_combo, is_current, is_expired, is_timed, opened_for, quiet, same_bool, then_if, timer_follows, timer_reset, unblock, unblocked, wants_timer, with_deadlines, with_wait_word}
use Rattle.nr_rev.specs.Kind.{kind_of}
use Rattle.nr_rev.specs.Refusing.{found_or, raised_sequence, refused_if, refused_unless}
use Rattle.nr_rev.specs.Sides.{covers_side, names_side, of_side, twice, with_side}
use Rattle.nr_rev.specs.Step.{after_change, after_orders, after_wakes, armed_by, blockarm, blockswap, committed_by, evict, fire, fired_with, idle, new_row, outcome, parkcommit, parking_of, pollevent, pollopen, pollreset, setdeadline, socket_of, status_of, swapped_by, taken, with_wait}
use Rattle.nr_rev.specs.WellFormed.{HasWaitWord}
use Rattle.nr_rev.specs.World.{World, is_free_number, is_waited, with_row}
use Rattle.nr_rev.proofs.ListUpdateLemmas.{slice_get-push_kept, slice_get-set_cases, slice_get-set_here}
use Rattle.nr_rev.proofs.SideLemmas.{other_side, of_side-with_side_other, of_side-with_side_same}
use Rattle.nr_laws.proofs.AspectLemmas.{ComesTo, ComesTo-ok, ComesTo-refused, ComesTo-ends, ComesTo-any, ComesTo-bind, ComesTo-then, ComesTo-either}
use Rattle.nr_laws.proofs.AspectDescriptorStepLemmas.{ComesTo-open_row_of}
use Rattle.nr_laws.proofs.AspectStepLemmas.{step_keeps_cell}
use Rattle.nr_laws.proofs.LookupLemmas.{Ends-entering_of, Ends-row_of, Ends-status_of, Ends-swapping_of}
use Rattle.nr_suspects.specs.declared.notice.Notice.TheVariants.{TookReadiness}
use Rattle.nr_suspects.specs.declared.notice.Visit.{Visit}
use Rattle.nr_suspects.specs.LostWakeUps.{IsTakenBy, Anew, Took}
use Rattle.nr_suspects.specs.Notices.{checking, is_ready, is_ready_word, is_taken, notice, visit, visit_at, visiting, wait_place, word_cell}

-- ---- the word of a side, as its cell shows it

pub word_of_cell : (w : World) (d : ℕ) (side : Side) → cell w (word_cell d side) ≡ value_or_absent (λ (row : DescriptorRow). CellValue.WaitWord (of_side side row.descriptor.words)) (slice_get w.descriptors d)
word_of_cell w d Read = refl
word_of_cell w d Write = refl

-- the side's word is ready
abbrev pub IsReady : World → ℕ → Side → Type 0
IsReady w d side = HasWaitWord w.descriptors d side Ready

ready_word : (word : WaitWord) → is_ready_word (CellValue.WaitWord word) ≡ true → word ≡ Ready
ready_word Ready e = refl
ready_word Nil e = cc
ready_word Wait e = cc
ready_word (Held g) e = cc

pub ready_is : (w : World) (d : ℕ) (side : Side) → is_ready w d side ≡ true → IsReady w d side
ready_is w d side ready = go (slice_get w.descriptors d) (sym (ap is_ready_word (word_of_cell w d side)) ∙ ready)
  where
    go : (o : Option DescriptorRow) → is_ready_word (value_or_absent (λ (row : DescriptorRow). CellValue.WaitWord (of_side side row.descriptor.words)) o) ≡ true
        → option_map (λ (row : DescriptorRow). of_side side row.descriptor.words) o ≡ Some Ready
    go None e = absurd (true≢false (sym e))
    go (Some row) e = ap Some (ready_word (of_side side row.descriptor.words) e)

pub is_then_ready : (w : World) (d : ℕ) (side : Side) → IsReady w d side → is_ready w d side ≡ true
is_then_ready w d side ready = ap is_ready_word (word_of_cell w d side) ∙ go (slice_get w.descriptors d) ready
  where
    go : (o : Option DescriptorRow) → option_map (λ (row : DescriptorRow). of_side side row.descriptor.words) o ≡ Some Ready
        → is_ready_word (value_or_absent (λ (row : DescriptorRow). CellValue.WaitWord (of_side side row.descriptor.words)) o) ≡ true
    go None e = absurd (none-some _ e)
    go (Some row) e = ap (λ word. is_ready_word (CellValue.WaitWord word)) (same_Some _ _ e)

-- ---- changes of a descriptor

-- each side that is ready remains ready
abbrev KeepsReady : Descriptor → Descriptor → Type 0
KeepsReady old new = (side : Side) → of_side side old.words ≡ Ready → of_side side new.words ≡ Ready

same_words : (old new : Descriptor) → new.words ≡ old.words → KeepsReady old new
same_words old new same side ready = ap (of_side side) same ∙ ready

unblocked_keeps : (ioready : Bool) (s : Side) (d : Descriptor) → KeepsReady d (unblocked ioready s d).descriptor
unblocked_keeps ioready s d side ready =
    elim (other_side side s) [
      | inl same ↦
          ap (λ x. of_side x (with_side s (unblock (of_side s d.words) ioready).0 d.words)) same
          ∙ of_side-with_side_same s (unblock (of_side s d.words) ioready).0 d.words
          ∙ ap (λ word. (unblock word ioready).0) (sym (ap (λ x. of_side x d.words) same) ∙ ready)
      | inr apart ↦ of_side-with_side_other side s (unblock (of_side s d.words) ioready).0 d.words apart ∙ ready
    ]

then_if_keeps : (old : Descriptor) (first : Change) (test : Bool) (next : Descriptor → Change) → KeepsReady old first.descriptor → KeepsReady first.descriptor (next first.descriptor).descriptor
    → KeepsReady old (then_if first test next).descriptor
then_if_keeps old first true next a b side ready = b side (a side ready)
then_if_keeps old first false next a b side ready = a side ready

event_keeps : (mode : Mode) (error : Bool) (d : Descriptor) → KeepsReady d (change_by_event mode error d).descriptor
event_keeps mode error d =
    let first : Change = quiet (record d { event_error = error }) in
    let second : Change = then_if first (names_side mode Read) (unblocked true Read) in
    then_if_keeps d second (names_side mode Write) (unblocked true Write)
    (then_if_keeps d first (names_side mode Read) (unblocked true Read) (λ side ready. ready) (unblocked_keeps true Read first.descriptor))
    (unblocked_keeps true Write second.descriptor)

evict_keeps : (d : Descriptor) → ComesTo (λ (change : Change). KeepsReady d change.descriptor) (change_by_evict d)
evict_keeps d =
    ComesTo-then (ComesTo-any (refused_if d.closing Refusal.AlreadyClosing)) λ _.
    ComesTo-bind (ComesTo-any (both_raised d.sequences)) λ sequences _.
    let stopped : Descriptor = record d { closing = true; sequences = sequences; running = twice false } in
    let reading : Descriptor = (unblocked false Read stopped).descriptor in
    ComesTo-ok (λ side ready. unblocked_keeps false Write reading side (unblocked_keeps false Read stopped side ready))

-- a change to the timers that leaves words and deadlines unchanged
abbrev pub FollowsQuietly : Descriptor → Change → Type 0
FollowsQuietly d change = (change.descriptor.words ≡ d.words) × (change.descriptor.deadlines ≡ d.deadlines)

pub follows_quietly : (side : Side) (old d : Descriptor) → ComesTo (FollowsQuietly d) (timer_follows side old d)
follows_quietly side old d =
    ComesTo-either (not (of_side side d.running)) (ComesTo-ok (by_wanted (wants_timer side d)))
    (ComesTo-either (int_eq (of_side side old.deadlines) (of_side side d.deadlines) && same_bool (is_combo old) (is_combo d)) (ComesTo-ok (refl, refl))
    (ComesTo-bind (ComesTo-any (raised_sequence (of_side side d.sequences))) λ sequence _. ComesTo-ok (refl, refl)))
  where
    by_wanted : (b : Bool) → FollowsQuietly d (if b then timer_reset side d else quiet d)
    by_wanted true = (refl, refl)
    by_wanted false = (refl, refl)

expired_keeps : (old : Descriptor) (change : Change) → KeepsReady old change.descriptor → KeepsReady old (expired_unblocked change).descriptor
expired_keeps old change kept =
    let first : Change = then_if change (is_expired Read change.descriptor) (unblocked false Read) in
    then_if_keeps old first (is_expired Write change.descriptor) (unblocked false Write)
    (then_if_keeps old change (is_expired Read change.descriptor) (unblocked false Read) kept (unblocked_keeps false Read change.descriptor)) (unblocked_keeps false Write first.descriptor)

deadline_keeps : (clock : ℤ) (mode : Mode) (t : ℤ) (d : Descriptor) → ComesTo (λ (change : Change). KeepsReady d change.descriptor) (change_by_deadline clock mode t d)
deadline_keeps clock mode t d =
    ComesTo-either d.closing (ComesTo-ok (λ side ready. ready))
    (ComesTo-bind (follows_quietly Read d (with_deadlines mode (deadline_from clock t) d)) λ read first.
    ComesTo-bind (follows_quietly Write d read.descriptor) λ write second.
    ComesTo-ok (expired_keeps d (and_then read (λ _. write)) (same_words d write.descriptor (second.0 ∙ first.0))))

expire_keeps : (side : Side) (d : Descriptor) → KeepsReady d (expire side d).descriptor
expire_keeps side d = unblocked_keeps false side (record d { deadlines = with_side side (negsuc 0) d.deadlines })

-- a firing keeps each ready side ready
abbrev FiringKeeps : Descriptor → Option Change → Type 0
FiringKeeps d change = (x : Change) → change ≡ Some x → KeepsReady d x.descriptor

firing_keeps : (function : TimerFunction) (sequence : ℕ) (d : Descriptor) → ComesTo (FiringKeeps d) (change_by_firing function sequence d)
firing_keeps function sequence d =
    let first : Change = then_if (quiet d) (covers_side function Read) (expire Read) in
    ComesTo-either (not (is_current function sequence d)) (ComesTo-ok (λ x e. absurd (none-some _ e)))
    (ComesTo-then (ComesTo-any (refused_unless (is_timed function d) Refusal.CorruptedDescriptor)) λ _.
    ComesTo-ok
    (λ x e. subst (λ (c : Change). KeepsReady d c.descriptor) (same_Some _ _ e)
    (then_if_keeps d first (covers_side function Write) (expire Write) (then_if_keeps d (quiet d) (covers_side function Read) (expire Read) (λ side ready. ready) (expire_keeps Read d))
    (expire_keeps Write first.descriptor))))

-- ---- rows

-- a ready side of descriptor d remains ready
abbrev StaysReady : List DescriptorRow → List DescriptorRow → ℕ → Side → Type 0
StaysReady rows new d side = HasWaitWord rows d side Ready → HasWaitWord new d side Ready

-- the word of a side whose row is known
row_word : (rows : List DescriptorRow) (d : ℕ) (side : Side) (row : DescriptorRow) (word : WaitWord) → slice_get rows d ≡ Some row → HasWaitWord rows d side word → of_side side row.descriptor.words ≡ word
row_word rows d side row word at has = same_Some _ _ (sym (ap (option_map (λ (r : DescriptorRow). of_side side r.descriptor.words)) at) ∙ has)

row_stays : (rows : List DescriptorRow) (e d : ℕ) (side : Side) (row new : DescriptorRow) → slice_get rows e ≡ Some row → KeepsReady row.descriptor new.descriptor → StaysReady rows (slice_set rows e new) d side
row_stays rows e d side row new at kept ready =
    elim (slice_get-set_cases rows e row new d at) [
      | inl here ↦
          ap (option_map (λ (r : DescriptorRow). of_side side r.descriptor.words)) here.1
          ∙ ap Some (kept side (row_word rows d side row Ready (ap (slice_get rows) here.0 ∙ at) ready))
      | inr other ↦ ap (option_map (λ (r : DescriptorRow). of_side side r.descriptor.words)) other.1 ∙ ready
    ]

-- waking goroutines leaves the descriptors unchanged
woken_rows : (gs : List ℕ) (w : World) → (after_wakes gs w).descriptors ≡ w.descriptors
woken_rows [] w = refl
woken_rows (g ∷ gs) w = woken_rows gs _

-- the rows after a change of descriptor e
pub changed_rows : (e : ℕ) (row : DescriptorRow) (change : Change) (w : World)
    → ComesTo (λ (next : World). (new : DescriptorRow) × (next.descriptors ≡ slice_set w.descriptors e new) × (new.descriptor ≡ change.descriptor)) (after_change e row change w)
changed_rows e row change w =
    ComesTo-bind (ComesTo-any (after_orders change.orders (row.timers, w.next_arming))) λ left _.
    ComesTo-ok (record { descriptor = change.descriptor; timers = left.0 }, woken_rows change.woken _, refl)

change_stays : (e d : ℕ) (side : Side) (row : DescriptorRow) (change : Change) (w : World) → slice_get w.descriptors e ≡ Some row → KeepsReady row.descriptor change.descriptor
    → ComesTo (λ (next : World). StaysReady w.descriptors next.descriptors d side) (after_change e row change w)
change_stays e d side row change w at kept = record {
  value = λ next is.
      let rows = (changed_rows e row change w).value next is in
      λ ready. subst (λ (new : List DescriptorRow). HasWaitWord new d side Ready) (sym rows.1)
      (row_stays w.descriptors e d side row rows.0 at (subst (KeepsReady row.descriptor) (sym rows.2) kept) ready);
}

-- ---- steps

-- a step ends the readiness of a side of descriptor d by reopening the descriptor or by consuming
-- the word
abbrev Opens : Step → Answer × World → ℕ → Type 0
Opens step left d = (g s : ℕ) × (step ≡ Step.PollOpen g s) × (left.0 ≡ answers.Number d)

-- the kind is one of the three that consume the readiness notification
abbrev IsTaker : Kind → Type 0
IsTaker kind = (kind ≡ Kind.PollReset) ⊎ (kind ≡ Kind.BlockArm) ⊎ (kind ≡ Kind.BlockSwap)

abbrev TakesUp : World → Step → Answer × World → ℕ → Side → Type 0
TakesUp w step left d side =
    (v : Visit) × (notice w step left.0 left.1 ≡ visiting w left.1 left.0 (Some v)) × (v.descriptor ≡ d) × (v.side ≡ side) × IsTaker (kind_of step)

-- a side that is ready remains ready until the descriptor is reopened or the notification is
-- consumed
abbrev KeepsOrTakes : World → Step → ℕ → Side → Answer × World → Type 0
KeepsOrTakes w step d side left = IsReady w d side → IsReady left.1 d side ⊎ Opens step left d ⊎ TakesUp w step left d side

-- after one wait word changes, every other side that was ready is still ready
word_or_kept : (rows : List DescriptorRow) (e d : ℕ) (s side : Side) (row : DescriptorRow) (word : WaitWord) → slice_get rows e ≡ Some row → HasWaitWord rows d side Ready
    → HasWaitWord (slice_set rows e (record row { descriptor = with_wait_word s word row.descriptor })) d side Ready ⊎ ((e ≡ d) × (s ≡ side))
word_or_kept rows e d s side row word at ready =
    elim (slice_get-set_cases rows e row (record row { descriptor = with_wait_word s word row.descriptor }) d at) [
      | inl here ↦ elim (other_side side s) [
        | inl same ↦ inr (sym here.0, sym same)
        | inr apart ↦
            inl
            (ap (option_map (λ (r : DescriptorRow). of_side side r.descriptor.words)) here.1
            ∙ ap Some (of_side-with_side_other side s word row.descriptor.words apart ∙ row_word rows d side row Ready (ap (slice_get rows) here.0 ∙ at) ready))
      ]
      | inr other ↦ inl (ap (option_map (λ (r : DescriptorRow). of_side side r.descriptor.words)) other.1 ∙ ready)
    ]

taken_stays : (w : World) (free : List ℕ) (d : ℕ) (side : Side) → ComesTo (λ (place : ℕ × World). StaysReady w.descriptors place.1.descriptors d side) (taken free w)
taken_stays w (e ∷ free) d side = ComesTo-ok (λ ready. ready)
taken_stays w [] d side =
    ComesTo-then (ComesTo-any (refused_unless (nat_lt (length w.descriptors) w.limits.descriptors) _)) λ _.
    ComesTo-ok (λ ready. pushed (slice_get w.descriptors d) refl ready)
  where
    pushed : (o : Option DescriptorRow) → slice_get w.descriptors d ≡ o → option_map (λ (r : DescriptorRow). of_side side r.descriptor.words) o ≡ Some Ready
        → HasWaitWord (w.descriptors ++ new_row ∷ []) d side Ready
    pushed None is e = absurd (none-some _ e)
    pushed (Some row) is e = ap (option_map (λ (r : DescriptorRow). of_side side r.descriptor.words)) (slice_get-push_kept w.descriptors new_row row d is) ∙ e

pollopen_takes : (w : World) (g s d : ℕ) (side : Side) → ComesTo (KeepsOrTakes w (Step.PollOpen g s) d side) (pollopen g s w)
pollopen_takes w g s d side =
    ComesTo-then (ComesTo-any (idle g w)) λ _.
    ComesTo-bind (ComesTo-any (socket_of s w)) λ _ _.
    ComesTo-bind (taken_stays w w.free d side) λ place stays.
    ComesTo-bind (ComesTo-ends (Ends-row_of place.0 place.1)) λ row at.
    ComesTo-bind (ComesTo-any (opened_for s row.descriptor)) λ descriptor _.
    ComesTo-ok
    (λ ready. elim (slice_get-set_cases place.1.descriptors place.0 row (record row { descriptor = descriptor }) d at) [
      | inl here ↦ inr (inl (g, s, refl, ap answers.Number (sym here.0)))
      | inr other ↦ inl (ap (option_map (λ (r : DescriptorRow). of_side side r.descriptor.words)) other.1 ∙ stays ready)
    ])

pollreset_takes : (w : World) (g e d : ℕ) (s side : Side) → ComesTo (KeepsOrTakes w (Step.PollReset g e s) d side) (pollreset g e s w)
pollreset_takes w g e d s side =
    ComesTo-then (ComesTo-any (idle g w)) λ _.
    ComesTo-bind (ComesTo-open_row_of e w) λ row at.
    ComesTo-then (ComesTo-any (refused_if ((check s row.descriptor == 0) && is_waited e s w.goroutines) _)) λ _.
    ComesTo-ok (by_code row at (check s row.descriptor == 0))
  where
    by_code : (row : DescriptorRow) → slice_get w.descriptors e ≡ Some row → (b : Bool)
        → KeepsOrTakes w (Step.PollReset g e s) d side (answers.Code (check s row.descriptor), (if b then with_row e (record row { descriptor = with_wait_word s Nil row.descriptor }) w else w))
    by_code row at true ready = elim (word_or_kept w.descriptors e d s side row Nil at ready) [
      | inl kept ↦ inl kept
      | inr here ↦ inr (inr (record { goroutine = g; descriptor = e; side = s }, refl, here.0, here.1, inl refl))
    ]
    by_code row at false ready = inl ready

-- the place at which a goroutine with this status waits, from its cell
pub visits : (w : World) (g d : ℕ) (side : Side) (status : Status) → slice_get w.goroutines g ≡ Some status → wait_place (CellValue.Status status) ≡ Some (d, side)
    → visit_at g (wait_place (cell w (Cell.Goroutine g))) ≡ Some (record { goroutine = g; descriptor = d; side = side })
visits w g d side status at place = ap (λ o. visit_at g (wait_place (value_or_absent CellValue.Status o))) at ∙ ap (visit_at g) place

armed_takes : (w : World) (g e d : ℕ) (s side : Side) (word : WaitWord) (row : DescriptorRow) → slice_get w.descriptors e ≡ Some row
    → visit w (Step.BlockArm g) ≡ Some (record { goroutine = g; descriptor = e; side = s }) → ComesTo (KeepsOrTakes w (Step.BlockArm g) d side) (armed_by g e s word row w)
armed_takes w g e d s side Nil row at at_visit =
    ComesTo-ok
    (λ ready. elim (word_or_kept w.descriptors e d s side row Wait at ready) [
      | inl kept ↦ inl kept
      | inr here ↦ inr (inr (record { goroutine = g; descriptor = e; side = s }, ap (visiting w (with_wait g (Armed e s) e s Wait row w) answers.Wait) at_visit, here.0, here.1, inr (inl refl)))
    ])
armed_takes w g e d s side Ready row at at_visit =
    ComesTo-ok
    (λ ready. elim (word_or_kept w.descriptors e d s side row Nil at ready) [
      | inl kept ↦ inl kept
      | inr here ↦ inr (inr (record { goroutine = g; descriptor = e; side = s }, ap (visiting w (with_wait g Idle e s Nil row w) (answers.Code 0)) at_visit, here.0, here.1, inr (inl refl)))
    ])
armed_takes w g e d s side Wait row at at_visit = ComesTo-refused
armed_takes w g e d s side (Held h) row at at_visit = ComesTo-refused

blockarm_takes : (w : World) (g d : ℕ) (side : Side) → ComesTo (KeepsOrTakes w (Step.BlockArm g) d side) (blockarm g w)
blockarm_takes w g d side =
    ComesTo-bind (ComesTo-ends (Ends-status_of g w)) λ status there.
    ComesTo-bind (ComesTo-ends (Ends-entering_of status)) λ place enters.
    ComesTo-bind (ComesTo-ends (Ends-row_of place.0 w)) λ row at.
    armed_takes w g place.0 d place.1 side (of_side place.1 row.descriptor.words) row at (visits w g place.0 place.1 status there (ap (λ x. wait_place (CellValue.Status x)) enters))

swapped_takes : (w : World) (g e d : ℕ) (s side : Side) (word : WaitWord) (row : DescriptorRow) → slice_get w.descriptors e ≡ Some row
    → visit w (Step.BlockSwap g) ≡ Some (record { goroutine = g; descriptor = e; side = s }) → KeepsOrTakes w (Step.BlockSwap g) d side (swapped_by g e s word row w)
swapped_takes w g e d s side word row at at_visit ready = by_word word
  where
    left : (next : Answer × World) → next.1.descriptors ≡ slice_set w.descriptors e (record row { descriptor = with_wait_word s Nil row.descriptor })
        → notice w (Step.BlockSwap g) next.0 next.1 ≡ visiting w next.1 next.0 (visit w (Step.BlockSwap g)) → IsReady next.1 d side ⊎ Opens (Step.BlockSwap g) next d ⊎ TakesUp w (Step.BlockSwap g) next d side
    left next rows same = elim (word_or_kept w.descriptors e d s side row Nil at ready) [
      | inl kept ↦ inl (subst (λ (new : List DescriptorRow). HasWaitWord new d side Ready) (sym rows) kept)
      | inr here ↦ inr (inr (record { goroutine = g; descriptor = e; side = s }, same ∙ ap (visiting w next.1 next.0) at_visit, here.0, here.1, inr (inr refl)))
    ]

    by_word : (x : WaitWord) → IsReady (swapped_by g e s x row w).1 d side ⊎ Opens (Step.BlockSwap g) (swapped_by g e s x row w) d ⊎ TakesUp w (Step.BlockSwap g) (swapped_by g e s x row w) d side
    by_word Ready = left (swapped_by g e s Ready row w) refl refl
    by_word Nil = left (swapped_by g e s Nil row w) refl refl
    by_word Wait = left (swapped_by g e s Wait row w) refl refl
    by_word (Held h) = left (swapped_by g e s (Held h) row w) refl refl

blockswap_takes : (w : World) (g d : ℕ) (side : Side) → ComesTo (KeepsOrTakes w (Step.BlockSwap g) d side) (blockswap g w)
blockswap_takes w g d side =
    ComesTo-bind (ComesTo-ends (Ends-status_of g w)) λ status there.
    ComesTo-bind (ComesTo-ends (Ends-swapping_of status)) λ place swaps.
    ComesTo-bind (ComesTo-ends (Ends-row_of place.0 w)) λ row at.
    ComesTo-ok
    (swapped_takes w g place.0 d place.1 side (of_side place.1 row.descriptor.words) row at (visits w g place.0 place.1 status there (ap (λ x. wait_place (CellValue.Status x)) swaps)))

-- a commit keeps each ready side ready, because it changes only a word that is waiting
committed_stays : (w : World) (g e d : ℕ) (s side : Side) (row : DescriptorRow) → slice_get w.descriptors e ≡ Some row → (word : WaitWord) → of_side s row.descriptor.words ≡ word
    → StaysReady w.descriptors (committed_by g e s word row w).1.descriptors d side
committed_stays w g e d s side row at Wait is ready = elim (word_or_kept w.descriptors e d s side row (Held g) at ready) [
  | inl kept ↦ kept
  | inr here ↦
      absurd
      (waits
      (sym is ∙ ap (λ x. of_side x row.descriptor.words) here.1 ∙ row_word w.descriptors d side row Ready (ap (slice_get w.descriptors) (sym here.0) ∙ at) ready))
]
  where
    waits : Wait ≡ Ready → ⊥
    waits f = cc
committed_stays w g e d s side row at Nil is ready = ready
committed_stays w g e d s side row at Ready is ready = ready
committed_stays w g e d s side row at (Held h) is ready = ready

parkcommit_stays : (w : World) (g d : ℕ) (side : Side) → ComesTo (λ left. StaysReady w.descriptors left.1.descriptors d side) (parkcommit g w)
parkcommit_stays w g d side =
    ComesTo-bind (ComesTo-any (status_of g w)) λ status _.
    ComesTo-bind (ComesTo-any (parking_of status)) λ place _.
    ComesTo-bind (ComesTo-ends (Ends-row_of place.0 w)) λ row at.
    ComesTo-ok (committed_stays w g place.0 d place.1 side row at (of_side place.1 row.descriptor.words) refl)

setdeadline_stays : (w : World) (g e d : ℕ) (mode : Mode) (t : ℤ) (side : Side) → ComesTo (λ left. StaysReady w.descriptors left.1.descriptors d side) (setdeadline g e mode t w)
setdeadline_stays w g e d mode t side =
    ComesTo-then (ComesTo-any (idle g w)) λ _.
    ComesTo-bind (ComesTo-open_row_of e w) λ row at.
    ComesTo-bind (deadline_keeps w.clock mode t row.descriptor) λ change kept.
    ComesTo-bind (change_stays e d side row change w at kept) λ next stays.
    ComesTo-ok stays

evict_stays : (w : World) (g e d : ℕ) (side : Side) → ComesTo (λ left. StaysReady w.descriptors left.1.descriptors d side) (evict g e w)
evict_stays w g e d side =
    ComesTo-then (ComesTo-any (idle g w)) λ _.
    ComesTo-bind (ComesTo-open_row_of e w) λ row at.
    ComesTo-bind (evict_keeps row.descriptor) λ change kept.
    ComesTo-bind (change_stays e d side row change w at kept) λ next stays.
    ComesTo-ok stays

pollevent_stays : (w : World) (e tag d : ℕ) (mode : Mode) (error : Bool) (side : Side) → ComesTo (λ left. StaysReady w.descriptors left.1.descriptors d side) (pollevent e tag mode error w)
pollevent_stays w e tag d mode error side =
    ComesTo-bind (ComesTo-ends (Ends-row_of e w)) λ row at.
    ComesTo-either (is_free_number e w.free || not (tag == row.descriptor.fdseq)) (ComesTo-ok (λ ready. ready))
    (ComesTo-bind (change_stays e d side row (change_by_event mode error row.descriptor) w at (event_keeps mode error row.descriptor)) λ next stays.
    ComesTo-ok stays)

fired_stays : (e d : ℕ) (side : Side) (row : DescriptorRow) (change : Option Change) (w : World) → slice_get w.descriptors e ≡ Some row → FiringKeeps row.descriptor change
    → ComesTo (λ left. StaysReady w.descriptors left.1.descriptors d side) (fired_with e row change w)
fired_stays e d side row None w at kept = ComesTo-ok (λ ready. ready)
fired_stays e d side row (Some change) w at kept = ComesTo-bind (change_stays e d side row change w at (kept change refl)) λ next stays. ComesTo-ok stays

fire_stays : (w : World) (i d : ℕ) (side : Side) → ComesTo (λ left. StaysReady w.descriptors left.1.descriptors d side) (fire i w)
fire_stays w i d side =
    ComesTo-bind (ComesTo-any (found_or (slice_get w.firings i) Refusal.NoSuchFiring)) λ entry _.
    ComesTo-bind (ComesTo-ends (Ends-row_of entry.descriptor w)) λ row at.
    ComesTo-bind (firing_keeps entry.timer.function entry.timer.sequence row.descriptor) λ change kept.
    fired_stays entry.descriptor d side row change (record w { firings = remove w.firings i }) at kept

-- a step that keeps sides ready satisfies the law
keeps : (w : World) (step : Step) (d : ℕ) (side : Side) → ComesTo (λ left. StaysReady w.descriptors left.1.descriptors d side) (outcome w step) → ComesTo (KeepsOrTakes w step d side) (outcome w step)
keeps w step d side stays = record { value = λ left is ready. inl (stays.value left is ready) }

-- a step that changes no word satisfies the law
unchanged : (w : World) (step : Step) (d : ℕ) (side : Side) → can_change (kind_of step) (word_cell d side) ≡ false → ComesTo (KeepsOrTakes w step d side) (outcome w step)
unchanged w step d side cannot = record {
  value = λ left is ready. inl (ready_is left.1 d side (ap is_ready_word (step_keeps_cell w step left.0 left.1 (word_cell d side) is cannot) ∙ is_then_ready w d side ready));
}

-- if a step can't change the cell of either side, it can't change the cell of this side
pub same_for : (step : Step) (cells : Side → Cell) (side : Side) → can_change (kind_of step) (cells Read) ≡ false → can_change (kind_of step) (cells Write) ≡ false → can_change (kind_of step) (cells side) ≡ false
same_for step cells Read a b = a
same_for step cells Write a b = b

untouched : (w : World) (step : Step) (d : ℕ) (side : Side) → can_change (kind_of step) (Cell.ReadWord d) ≡ false → can_change (kind_of step) (Cell.WriteWord d) ≡ false
    → ComesTo (KeepsOrTakes w step d side) (outcome w step)
untouched w step d side a b = unchanged w step d side (same_for step (word_cell d) side a b)

-- the law for every kind of step
keeps_or_takes : (w : World) (step : Step) (d : ℕ) (side : Side) → ComesTo (KeepsOrTakes w step d side) (outcome w step)
keeps_or_takes w Step.Spawn d side = untouched w Step.Spawn d side refl refl
keeps_or_takes w (Step.Exit g) d side = untouched w (Step.Exit g) d side refl refl
keeps_or_takes w (Step.SockOpen rc wc) d side = untouched w (Step.SockOpen rc wc) d side refl refl
keeps_or_takes w (Step.Arrive k bytes) d side = untouched w (Step.Arrive k bytes) d side refl refl
keeps_or_takes w (Step.PeerClose k) d side = untouched w (Step.PeerClose k) d side refl refl
keeps_or_takes w (Step.SysRead g k n) d side = untouched w (Step.SysRead g k n) d side refl refl
keeps_or_takes w (Step.SysWrite g k bytes) d side = untouched w (Step.SysWrite g k bytes) d side refl refl
keeps_or_takes w (Step.Drain k n) d side = untouched w (Step.Drain k n) d side refl refl
keeps_or_takes w (Step.Incref g k) d side = untouched w (Step.Incref g k) d side refl refl
keeps_or_takes w (Step.IncrefClose g k) d side = untouched w (Step.IncrefClose g k) d side refl refl
keeps_or_takes w (Step.Decref g k) d side = untouched w (Step.Decref g k) d side refl refl
keeps_or_takes w (Step.RwLock g k s) d side = untouched w (Step.RwLock g k s) d side refl refl
keeps_or_takes w (Step.RwUnlock g k s) d side = untouched w (Step.RwUnlock g k s) d side refl refl
keeps_or_takes w (Step.Acquire g) d side = untouched w (Step.Acquire g) d side refl refl
keeps_or_takes w (Step.Release g) d side = untouched w (Step.Release g) d side refl refl
keeps_or_takes w (Step.PollOpen g k) d side = pollopen_takes w g k d side
keeps_or_takes w (Step.PollClose g e) d side = untouched w (Step.PollClose g e) d side refl refl
keeps_or_takes w (Step.PollReset g e s) d side = pollreset_takes w g e d s side
keeps_or_takes w (Step.WaitBegin g e s) d side = untouched w (Step.WaitBegin g e s) d side refl refl
keeps_or_takes w (Step.BlockArm g) d side = blockarm_takes w g d side
keeps_or_takes w (Step.BlockCheck g) d side = untouched w (Step.BlockCheck g) d side refl refl
keeps_or_takes w (Step.ParkCommit g) d side = keeps w (Step.ParkCommit g) d side (parkcommit_stays w g d side)
keeps_or_takes w (Step.BlockSwap g) d side = blockswap_takes w g d side
keeps_or_takes w (Step.WaitCheck g) d side = untouched w (Step.WaitCheck g) d side refl refl
keeps_or_takes w (Step.SetDeadline g e mode x) d side = keeps w (Step.SetDeadline g e mode x) d side (setdeadline_stays w g e d mode x side)
keeps_or_takes w (Step.Evict g e) d side = keeps w (Step.Evict g e) d side (evict_stays w g e d side)
keeps_or_takes w (Step.PollEvent e tag mode error) d side = keeps w (Step.PollEvent e tag mode error) d side (pollevent_stays w e tag d mode error side)
keeps_or_takes w (Step.Tick x) d side = untouched w (Step.Tick x) d side refl refl
keeps_or_takes w Step.Pop d side = untouched w Step.Pop d side refl refl
keeps_or_takes w (Step.Fire i) d side = keeps w (Step.Fire i) d side (fire_stays w i d side)
keeps_or_takes w (Step.CloseWrite g k) d side = untouched w (Step.CloseWrite g k) d side refl refl

-- only these three kinds of steps, and reopening the descriptor, end the readiness of a side
pub taken_by_three : (w next : World) (step : Step) (answer : Answer) (d : ℕ) (side : Side) → outcome w step ≡ Ok (answer, next) → is_ready w d side ≡ true → is_ready next d side ≡ false
    → IsTakenBy w step answer next d side
taken_by_three w next step answer d side is before after =
    elim ((keeps_or_takes w step d side).value (answer, next) is (ready_is w d side before)) [
      | inl ready ↦ absurd (true≢false (sym (is_then_ready next d side ready) ∙ after))
      | inr taken ↦ elim taken [
        | inl opened ↦ Anew opened.1 (ap (λ x. notice w x answer next) opened.2 ∙ ap (λ a. notice w (Step.PollOpen opened.0 opened.1) a next) opened.3)
        | inr took ↦ by_visit took.0 took.1 took.2 took.3 took.4
      ]
    ]
  where
    by_visit : (v : Visit) → notice w step answer next ≡ visiting w next answer (Some v) → v.descriptor ≡ d → v.side ≡ side → IsTaker (kind_of step) → IsTakenBy w step answer next d side
    by_visit v same here at kind =
        let taken : is_taken w next v ≡ true =
        ap (λ (x : ℕ). is_ready w x v.side && not (is_ready next x v.side)) here
        ∙ ap (λ (x : Side). is_ready w d x && not (is_ready next d x)) at
        ∙ ap (λ b. b && not (is_ready next d side)) before
        ∙ ap not after in
        Took v.goroutine
        (same
        ∙ ap (λ b. if b then TookReadiness v else checking v answer) taken
        ∙ ap (λ (x : ℕ). TookReadiness (record { goroutine = v.goroutine; descriptor = x; side = v.side })) here
        ∙ ap (λ (x : Side). TookReadiness (record { goroutine = v.goroutine; descriptor = d; side = x })) at)
        kind

-- ---- events

unblock_readies : (word : WaitWord) → (unblock word true).0 ≡ Ready
unblock_readies Ready = refl
unblock_readies Nil = refl
unblock_readies Wait = refl
unblock_readies (Held g) = refl

unblocked_readies : (side : Side) (d : Descriptor) → of_side side (unblocked true side d).descriptor.words ≡ Ready
unblocked_readies side d = of_side-with_side_same side (unblock (of_side side d.words) true).0 d.words ∙ unblock_readies (of_side side d.words)

-- a side that an event names is ready afterwards
event_readies : (mode : Mode) (error : Bool) (d : Descriptor) (side : Side) → names_side mode side ≡ true → of_side side (change_by_event mode error d).descriptor.words ≡ Ready
event_readies mode error d side names = by side (names_side mode Read) (names_side mode Write) names refl refl
  where
    first : Change
    first = quiet (record d { event_error = error })

    second : Bool → Change
    second b = then_if first b (unblocked true Read)

    write_keeps : (b : Bool) (change : Change) → of_side Read change.descriptor.words ≡ Ready → of_side Read (then_if change b (unblocked true Write)).descriptor.words ≡ Ready
    write_keeps b change ready = then_if_keeps change.descriptor change b (unblocked true Write) (λ s e. e) (unblocked_keeps true Write change.descriptor) Read ready

    by : (s : Side) (reads writes : Bool) → names_side mode s ≡ true → names_side mode Read ≡ reads → names_side mode Write ≡ writes
        → of_side s (then_if (second reads) writes (unblocked true Write)).descriptor.words ≡ Ready
    by Read true writes named a b = write_keeps writes (second true) (unblocked_readies Read first.descriptor)
    by Read false writes named a b = absurd (true≢false (sym named ∙ a))
    by Write reads true named a b = unblocked_readies Write (second reads).descriptor
    by Write reads false named a b = absurd (true≢false (sym named ∙ b))

changed_word : (e : ℕ) (side : Side) (row : DescriptorRow) (change : Change) (w : World) → slice_get w.descriptors e ≡ Some row → of_side side change.descriptor.words ≡ Ready
    → ComesTo (λ (next : World). IsReady next e side) (after_change e row change w)
changed_word e side row change w at ready = record {
  value = λ next is.
      let rows = (changed_rows e row change w).value next is in
      ap (option_map (λ (r : DescriptorRow). of_side side r.descriptor.words)) (ap (λ (x : List DescriptorRow). slice_get x e) rows.1 ∙ slice_get-set_here w.descriptors e row rows.0 at)
      ∙ ap Some (ap (λ (x : Descriptor). of_side side x.words) rows.2 ∙ ready);
}

pollevent_readies : (w : World) (d tag : ℕ) (mode : Mode) (error : Bool) (side : Side) → names_side mode side ≡ true
    → ComesTo (λ (left : Answer × World). left.0 ≡ answers.Done → IsReady left.1 d side) (pollevent d tag mode error w)
pollevent_readies w d tag mode error side names =
    ComesTo-bind (ComesTo-ends (Ends-row_of d w)) λ row at.
    ComesTo-either (is_free_number d w.free || not (tag == row.descriptor.fdseq)) (ComesTo-ok (λ done. absurd (stale done)))
    (ComesTo-bind (changed_word d side row (change_by_event mode error row.descriptor) w at (event_readies mode error row.descriptor side names)) λ next ready.
    ComesTo-ok (λ done. ready))
  where
    stale : answers.Stale ≡ answers.Done → ⊥
    stale e = cc

-- an event that was answered `Done` makes its sides ready
pub event_makes_ready : (w : World) (d tag : ℕ) (mode : Mode) (error : Bool) (side : Side) (next : World) → outcome w (Step.PollEvent d tag mode error) ≡ Ok (answers.Done, next) → names_side mode side ≡ true
    → is_ready next d side ≡ true
event_makes_ready w d tag mode error side next is names = is_then_ready next d side ((pollevent_readies w d tag mode error side names).value (answers.Done, next) is refl)
