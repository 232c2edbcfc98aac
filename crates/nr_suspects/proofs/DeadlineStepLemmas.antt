-- Each deadline that is set was set by a step, and each timeout comes from a deadline that a step
-- set.
use Rattle.std.proofs.Common.{◌≡◌, ◌≢◌, ℕ, Bool, true, false, not, ◌&&◌, List, [], ◌∷◌, ◌++◌, length, ◌⊎◌, inl, inr, Option, Some, None, Ok, refl, sym, ap, subst, ◌∙◌, true≢false}
use Rattle.std.specs.Prelude.{◌==◌, if◌then◌else◌, nat_lt, remove, slice_get, slice_set, option_map, ℤ, pos}
use Rattle.std.proofs.lemmas.Bool.{eqb-false, eqb-true}
use Rattle.std.proofs.lemmas.Option.{none-some, same_Some}
use Rattle.nr_rev.specs.declared.answer.Answer.{Answer}
use Rattle.nr_rev.specs.declared.answer.Answer.TheVariants as answers
use Rattle.nr_rev.specs.declared.cell.Cell.{Cell}
use Rattle.nr_rev.specs.declared.cell_value.CellValue.{CellValue}
use Rattle.nr_rev.specs.declared.descriptor.Descriptor.{Descriptor}
use Rattle.nr_rev.specs.declared.descriptor.DescriptorRow.{DescriptorRow}
use Rattle.nr_rev.specs.declared.descriptor.WaitWord.{WaitWord}
use Rattle.nr_rev.specs.declared.descriptor.WaitWord.TheVariants.{Nil, Ready, Wait, Held}
use Rattle.nr_rev.specs.declared.refusal.Refusal.{Refusal}
use Rattle.nr_rev.specs.declared.sides.Mode.{Mode}
use Rattle.nr_rev.specs.declared.sides.Side.{Side}
use Rattle.nr_rev.specs.declared.sides.Side.TheVariants.{Read, Write}
use Rattle.nr_rev.specs.declared.step.Step.{Step}
use Rattle.nr_rev.specs.declared.timer.TimerFunction.{TimerFunction}
use Rattle.nr_rev.specs.Aspect.{can_change}
use Rattle.nr_rev.specs.Cell.{cell, value_or_absent}
use Rattle.nr_rev.specs.Descriptor.{Change, and_then, both_raised, change_by_deadline, change_by_firing, check, deadline_from, expire, expired_unblocked, is_current, is_expired, is_negative, is_positive, is_timed, opened_for, quiet, then_if, unblocked, with_deadlines}
use Rattle.nr_rev.specs.Kind.{kind_of}
use Rattle.nr_rev.specs.Refusing.{found_or, refused_if, refused_unless}
use Rattle.nr_rev.specs.Sides.{covers_side, names_side, of_side}
use Rattle.nr_rev.specs.Step.{after_change, armed_by, blockarm, blockswap, fire, fired_with, idle, new_row, outcome, pollopen, pollreset, row_of, setdeadline, socket_of, status_of, swapped_by, swapping_of, entering_of, taken, waitbegin, waitcheck}
use Rattle.nr_rev.specs.World.{World, is_waited}
use Rattle.nr_rev.proofs.ListUpdateLemmas.{slice_get-push_cases, slice_get-set_cases}
use Rattle.nr_laws.proofs.AspectLemmas.{ComesTo, ComesTo-ok, ComesTo-refused, ComesTo-ends, ComesTo-any, ComesTo-bind, ComesTo-then, ComesTo-either}
use Rattle.nr_laws.proofs.AspectDescriptorStepLemmas.{ComesTo-open_row_of}
use Rattle.nr_laws.proofs.AspectStepLemmas.{step_keeps_cell}
use Rattle.nr_laws.proofs.BoolLemmas.{both_true}
use Rattle.nr_laws.proofs.LookupLemmas.{Ends-checking_of, Ends-row_of, Ends-status_of}
use Rattle.nr_suspects.specs.declared.notice.Visit.{Visit}
use Rattle.nr_suspects.specs.Notices.{deadline_cell, has_passed, is_past, visit, wait_place}
use Rattle.nr_suspects.proofs.ReadinessLemmas.{changed_rows, follows_quietly, same_for, visits}

-- ---- the deadline of a side

-- the deadline of a side in a descriptor's row
abbrev deadline_at : Side → DescriptorRow → ℤ
deadline_at side row = of_side side row.descriptor.deadlines

of_cell : (w : World) (d : ℕ) (side : Side) → cell w (deadline_cell d side) ≡ value_or_absent (λ (row : DescriptorRow). CellValue.Time (deadline_at side row)) (slice_get w.descriptors d)
of_cell w d Read = refl
of_cell w d Write = refl

-- the deadline of a side is set, that is, it isn't 0
abbrev pub IsDeadline : World → ℕ → Side → Type 0
IsDeadline w d side = (t : ℤ) × (option_map (deadline_at side) (slice_get w.descriptors d) ≡ Some t) × (t ≢ pos 0)

same_deadline : (side : Side) (a b : Option DescriptorRow) → value_or_absent (λ (row : DescriptorRow). CellValue.Time (deadline_at side row)) a ≡ value_or_absent (λ (row : DescriptorRow). CellValue.Time (deadline_at side row)) b
    → option_map (deadline_at side) a ≡ option_map (deadline_at side) b
same_deadline side None None e = refl
same_deadline side (Some x) None e = cc
same_deadline side None (Some y) e = cc
same_deadline side (Some x) (Some y) e = ap Some (times e)
  where
    times : CellValue.Time (deadline_at side x) ≡ CellValue.Time (deadline_at side y) → deadline_at side x ≡ deadline_at side y
    times f = cc

-- the deadline of a side whose row is known
of_row : (rows : List DescriptorRow) (d : ℕ) (side : Side) (row : DescriptorRow) (t : ℤ) → slice_get rows d ≡ Some row → option_map (deadline_at side) (slice_get rows d) ≡ Some t → deadline_at side row ≡ t
of_row rows d side row t at is = same_Some _ _ (sym (ap (option_map (deadline_at side)) at) ∙ is)

-- ---- times

negative_is_set : (t : ℤ) → is_negative t ≡ true → t ≢ pos 0
negative_is_set t negative zero = absurd (true≢false (sym negative ∙ ap is_negative zero))

positive_is_set : (t : ℤ) → is_positive t ≡ true → t ≢ pos 0
positive_is_set t positive zero = absurd (true≢false (sym positive ∙ ap is_positive zero))

-- a deadline that has passed is set
pub passed_is_set : (w : World) (d : ℕ) (side : Side) → has_passed w d side ≡ true → IsDeadline w d side
passed_is_set w d side passed = go (slice_get w.descriptors d) refl (sym (ap is_past (of_cell w d side)) ∙ passed)
  where
    go : (o : Option DescriptorRow) → slice_get w.descriptors d ≡ o → is_past (value_or_absent (λ (row : DescriptorRow). CellValue.Time (deadline_at side row)) o) ≡ true → IsDeadline w d side
    go None at e = absurd (true≢false (sym e))
    go (Some row) at e = (deadline_at side row, ap (option_map (deadline_at side)) at, negative_is_set (deadline_at side row) e)

expired_is_set : (w : World) (d : ℕ) (side : Side) (row : DescriptorRow) → slice_get w.descriptors d ≡ Some row → is_expired side row.descriptor ≡ true → IsDeadline w d side
expired_is_set w d side row at expired = (deadline_at side row, ap (option_map (deadline_at side)) at, negative_is_set (deadline_at side row) expired)

-- ---- steps that may change a deadline

-- the step sets the deadline of this side
abbrev pub Sets : Step → ℕ → Side → Type 0
Sets step d side = (g : ℕ) × (mode : Mode) × (t : ℤ) × (step ≡ Step.SetDeadline g d mode t) × (names_side mode side ≡ true)

-- the step didn't open the descriptor
abbrev pub IsNoOpening : Step → Answer → ℕ → Type 0
IsNoOpening step answer d = (g s : ℕ) → step ≡ Step.PollOpen g s → answer ≢ answers.Number d

-- If a side has a deadline after a step, the step didn't open the descriptor. The side already had a
-- deadline before, or the step set it.
abbrev WasSet : World → Step → ℕ → Side → Answer × World → Type 0
WasSet w step d side left = IsDeadline left.1 d side → (IsDeadline w d side ⊎ Sets step d side) × IsNoOpening step left.0 d

-- ---- opening

taken_was_set : (w : World) (free : List ℕ) (d : ℕ) (side : Side) → ComesTo (λ (place : ℕ × World). IsDeadline place.1 d side → IsDeadline w d side) (taken free w)
taken_was_set w (e ∷ free) d side = ComesTo-ok (λ set. set)
taken_was_set w [] d side =
    ComesTo-then (ComesTo-any (refused_unless (nat_lt (length w.descriptors) w.limits.descriptors) _)) λ _.
    ComesTo-ok (λ set. by (slice_get (w.descriptors ++ new_row ∷ []) d) refl set)
  where
    by : (o : Option DescriptorRow) → slice_get (w.descriptors ++ new_row ∷ []) d ≡ o → (t : ℤ) × (option_map (deadline_at side) o ≡ Some t) × (t ≢ pos 0) → IsDeadline w d side
    by None at set = absurd (none-some _ set.1)
    by (Some row) at set = elim (slice_get-push_cases w.descriptors new_row row d at) [
      | inl before ↦ (set.0, ap (option_map (deadline_at side)) before ∙ set.1, set.2)
      | inr last ↦ absurd (set.2 (sym (same_Some _ _ set.1) ∙ ap (deadline_at side) (sym last.1) ∙ zero side))
    ]
      where
        zero : (s : Side) → deadline_at s new_row ≡ pos 0
        zero Read = refl
        zero Write = refl

opened_zero : (s : ℕ) (old : Descriptor) (side : Side) → ComesTo (λ (new : Descriptor). of_side side new.deadlines ≡ pos 0) (opened_for s old)
opened_zero s old Read = ComesTo-bind (ComesTo-any (both_raised old.sequences)) λ sequences _. ComesTo-ok refl
opened_zero s old Write = ComesTo-bind (ComesTo-any (both_raised old.sequences)) λ sequences _. ComesTo-ok refl

same_number : (a b : ℕ) → answers.Number a ≡ answers.Number b → a ≡ b
same_number a b e = cc

pollopen_was_set : (w : World) (g s d : ℕ) (side : Side) → ComesTo (WasSet w (Step.PollOpen g s) d side) (pollopen g s w)
pollopen_was_set w g s d side =
    ComesTo-then (ComesTo-any (idle g w)) λ _.
    ComesTo-bind (ComesTo-any (socket_of s w)) λ _ _.
    ComesTo-bind (taken_was_set w w.free d side) λ place was.
    ComesTo-bind (ComesTo-ends (Ends-row_of place.0 place.1)) λ row at.
    ComesTo-bind (opened_zero s row.descriptor side) λ descriptor zero.
    ComesTo-ok
    (λ set. elim (slice_get-set_cases place.1.descriptors place.0 row (record row { descriptor = descriptor }) d at) [
      | inl here ↦ absurd (set.2 (sym (same_Some _ _ (sym (ap (option_map (deadline_at side)) here.1) ∙ set.1)) ∙ zero))
      | inr other ↦ (inl (was (set.0, sym (ap (option_map (deadline_at side)) other.1) ∙ set.1, set.2)), λ h k is number. other.0 (sym (same_number place.0 d number)))
    ])

-- ---- setting

then_if_deadlines : (first : Change) (test ioready : Bool) (side : Side) → (then_if first test (unblocked ioready side)).descriptor.deadlines ≡ first.descriptor.deadlines
then_if_deadlines first true ioready side = refl
then_if_deadlines first false ioready side = refl

expired_deadlines : (change : Change) → (expired_unblocked change).descriptor.deadlines ≡ change.descriptor.deadlines
expired_deadlines change =
    let first : Change = then_if change (is_expired Read change.descriptor) (unblocked false Read) in
    then_if_deadlines first (is_expired Write change.descriptor) false Write ∙ then_if_deadlines change (is_expired Read change.descriptor) false Read

-- a step leaves the deadline of a side unchanged if the mode doesn't name the side
unnamed_kept : (mode : Mode) (t : ℤ) (d : Descriptor) (side : Side) → names_side mode side ≡ false → of_side side (with_deadlines mode t d).deadlines ≡ of_side side d.deadlines
unnamed_kept mode t d Read e = ap (λ b. if b then t else d.deadlines.read) e
unnamed_kept mode t d Write e = ap (λ b. if b then t else d.deadlines.write) e

setting_kept : (clock : ℤ) (mode : Mode) (t : ℤ) (d : Descriptor) (side : Side) → names_side mode side ≡ false → ComesTo (λ (change : Change). of_side side change.descriptor.deadlines ≡ of_side side d.deadlines) (change_by_deadline clock mode t d)
setting_kept clock mode t d side e =
    ComesTo-either d.closing (ComesTo-ok refl)
    (ComesTo-bind (follows_quietly Read d (with_deadlines mode (deadline_from clock t) d)) λ read first.
    ComesTo-bind (follows_quietly Write d read.descriptor) λ write second.
    ComesTo-ok (ap (of_side side) (expired_deadlines (and_then read (λ _. write)) ∙ second.1 ∙ first.1) ∙ unnamed_kept mode (deadline_from clock t) d side e))

changed_was_set : (e d : ℕ) (side : Side) (row : DescriptorRow) (change : Change) (w : World) → slice_get w.descriptors e ≡ Some row → ((d ≡ e) → of_side side change.descriptor.deadlines ≢ pos 0 → of_side side row.descriptor.deadlines ≢ pos 0)
    → ComesTo (λ (next : World). IsDeadline next d side → IsDeadline w d side) (after_change e row change w)
changed_was_set e d side row change w at before = record { value = λ next is set. by next ((changed_rows e row change w).value next is) set }
  where
    by : (next : World) → (new : DescriptorRow) × (next.descriptors ≡ slice_set w.descriptors e new) × (new.descriptor ≡ change.descriptor) → IsDeadline next d side → IsDeadline w d side
    by next rows set =
        let there : option_map (deadline_at side) (slice_get (slice_set w.descriptors e rows.0) d) ≡ Some set.0 = ap (λ (x : List DescriptorRow). option_map (deadline_at side) (slice_get x d)) (sym rows.1) ∙ set.1 in
        elim (slice_get-set_cases w.descriptors e row rows.0 d at) [
          | inl here ↦
              let now : of_side side change.descriptor.deadlines ≡ set.0 = ap (λ (x : Descriptor). of_side side x.deadlines) (sym rows.2) ∙ same_Some _ _ (sym (ap (option_map (deadline_at side)) here.1) ∙ there) in
              (deadline_at side row, ap (λ k. option_map (deadline_at side) (slice_get w.descriptors k)) here.0 ∙ ap (option_map (deadline_at side)) at, before here.0 (λ zero. set.2 (sym now ∙ zero)))
          | inr other ↦ (set.0, sym (ap (option_map (deadline_at side)) other.1) ∙ there, set.2)
        ]

-- a step that isn't a `pollopen` opens no descriptor
not_opening : (step : Step) (left : Answer × World) (d : ℕ) → ((g s : ℕ) → step ≢ Step.PollOpen g s) → (g s : ℕ) → step ≡ Step.PollOpen g s → left.0 ≢ answers.Number d
not_opening step left d other g s is = absurd (other g s is)

setdeadline_was_set : (w : World) (g e d : ℕ) (mode : Mode) (t : ℤ) (side : Side) (named here : Bool) → names_side mode side ≡ named → (d == e) ≡ here → ComesTo (WasSet w (Step.SetDeadline g e mode t) d side) (setdeadline g e mode t w)
setdeadline_was_set w g e d mode t side true true names same =
    record { value = λ left is set. (inr (g, mode, t, ap (λ k. Step.SetDeadline g k mode t) (sym (eqb-true d e same)), names), λ h s isnt. cc) }
setdeadline_was_set w g e d mode t side true false names apart =
    ComesTo-then (ComesTo-any (idle g w)) λ _.
    ComesTo-bind (ComesTo-open_row_of e w) λ row at.
    ComesTo-bind (ComesTo-any (change_by_deadline w.clock mode t row.descriptor)) λ change _.
    ComesTo-bind (changed_was_set e d side row change w at (λ same. absurd (eqb-false d e apart same))) λ next was.
    ComesTo-ok (λ set. (inl (was set), λ h s is. cc))
setdeadline_was_set w g e d mode t side false here names same =
    ComesTo-then (ComesTo-any (idle g w)) λ _.
    ComesTo-bind (ComesTo-open_row_of e w) λ row at.
    ComesTo-bind (setting_kept w.clock mode t row.descriptor side names) λ change kept.
    ComesTo-bind (changed_was_set e d side row change w at (λ _ some zero. some (kept ∙ zero))) λ next was.
    ComesTo-ok (λ set. (inl (was set), λ h s is. cc))

-- ---- firing

-- a side that has a deadline after a firing had one before
abbrev FiringWas : Descriptor → Side → Option Change → Type 0
FiringWas d side change = (x : Change) → change ≡ Some x → of_side side x.descriptor.deadlines ≢ pos 0 → of_side side d.deadlines ≢ pos 0

fired_was : (function : TimerFunction) (side : Side) (d : Descriptor) → is_timed function d ≡ true
    → of_side side (then_if (then_if (quiet d) (covers_side function Read) (expire Read)) (covers_side function Write) (expire Write)).descriptor.deadlines ≢ pos 0 → of_side side d.deadlines ≢ pos 0
fired_was TimerFunction.Read Read d timed some = positive_is_set d.deadlines.read (both_true (is_positive d.deadlines.read) d.running.read timed).0
fired_was TimerFunction.Read Write d timed some = some
fired_was TimerFunction.Write Read d timed some = some
fired_was TimerFunction.Write Write d timed some = positive_is_set d.deadlines.write (both_true (is_positive d.deadlines.write) d.running.write timed).0
fired_was TimerFunction.Both Read d timed some =
    positive_is_set d.deadlines.read (both_true (is_positive d.deadlines.read) d.running.read (both_true (is_positive d.deadlines.read && d.running.read) (is_positive d.deadlines.write) timed).0).0
fired_was TimerFunction.Both Write d timed some = positive_is_set d.deadlines.write (both_true (is_positive d.deadlines.read && d.running.read) (is_positive d.deadlines.write) timed).1

timed : (b : Bool) (reason : Refusal) → ComesTo (λ _. b ≡ true) (refused_unless b reason)
timed true reason = ComesTo-ok refl
timed false reason = ComesTo-refused

firing_was : (function : TimerFunction) (sequence : ℕ) (d : Descriptor) (side : Side) → ComesTo (FiringWas d side) (change_by_firing function sequence d)
firing_was function sequence d side =
    ComesTo-either (not (is_current function sequence d)) (ComesTo-ok (λ x e. absurd (none-some _ e)))
    (ComesTo-then (timed (is_timed function d) Refusal.CorruptedDescriptor) λ is.
    ComesTo-ok (λ x e some. fired_was function side d is (λ zero. some (ap (λ (c : Change). of_side side c.descriptor.deadlines) (sym (same_Some _ _ e)) ∙ zero))))

fired_was_set : (i e d : ℕ) (side : Side) (row : DescriptorRow) (change : Option Change) (w : World) → slice_get w.descriptors e ≡ Some row → FiringWas row.descriptor side change
    → ComesTo (λ (left : Answer × World). IsDeadline left.1 d side → IsDeadline w d side) (fired_with e row change w)
fired_was_set i e d side row None w at was = ComesTo-ok (λ set. set)
fired_was_set i e d side row (Some change) w at was = ComesTo-bind (changed_was_set e d side row change w at (λ _. was change refl)) λ next before. ComesTo-ok before

fire_before : (w : World) (i d : ℕ) (side : Side) → ComesTo (λ (left : Answer × World). IsDeadline left.1 d side → IsDeadline w d side) (fire i w)
fire_before w i d side =
    ComesTo-bind (ComesTo-any (found_or (slice_get w.firings i) Refusal.NoSuchFiring)) λ entry _.
    ComesTo-bind (ComesTo-ends (Ends-row_of entry.descriptor w)) λ row at.
    ComesTo-bind (firing_was entry.timer.function entry.timer.sequence row.descriptor side) λ change was.
    fired_was_set i entry.descriptor d side row change (record w { firings = remove w.firings i }) at was

fire_was_set : (w : World) (i d : ℕ) (side : Side) → ComesTo (WasSet w (Step.Fire i) d side) (fire i w)
fire_was_set w i d side = record { value = λ left is set. (inl ((fire_before w i d side).value left is set), λ g s isnt. cc) }

-- ---- every kind

unchanged : (w : World) (step : Step) (d : ℕ) (side : Side) → can_change (kind_of step) (deadline_cell d side) ≡ false → ((g s : ℕ) → step ≢ Step.PollOpen g s) → ComesTo (WasSet w step d side) (outcome w step)
unchanged w step d side cannot other = record {
  value = λ left is set. (
    inl (
      set.0,
      sym (same_deadline side (slice_get left.1.descriptors d) (slice_get w.descriptors d) (sym (of_cell left.1 d side) ∙ step_keeps_cell w step left.0 left.1 (deadline_cell d side) is cannot ∙ of_cell w d side)) ∙ set.1,
      set.2,
    ),
    not_opening step left d other,
  );
}

untouched : (w : World) (step : Step) (d : ℕ) (side : Side) → can_change (kind_of step) (Cell.ReadDeadline d) ≡ false → can_change (kind_of step) (Cell.WriteDeadline d) ≡ false → ((g s : ℕ) → step ≢ Step.PollOpen g s)
    → ComesTo (WasSet w step d side) (outcome w step)
untouched w step d side a b other = unchanged w step d side (same_for step (deadline_cell d) side a b) other

was_set : (w : World) (step : Step) (d : ℕ) (side : Side) → ComesTo (WasSet w step d side) (outcome w step)
was_set w Step.Spawn d side = untouched w Step.Spawn d side refl refl (λ h s' is. cc)
was_set w (Step.Exit g) d side = untouched w (Step.Exit g) d side refl refl (λ h s' is. cc)
was_set w (Step.SockOpen rc wc) d side = untouched w (Step.SockOpen rc wc) d side refl refl (λ h s' is. cc)
was_set w (Step.Arrive k bytes) d side = untouched w (Step.Arrive k bytes) d side refl refl (λ h s' is. cc)
was_set w (Step.PeerClose k) d side = untouched w (Step.PeerClose k) d side refl refl (λ h s' is. cc)
was_set w (Step.SysRead g k n) d side = untouched w (Step.SysRead g k n) d side refl refl (λ h s' is. cc)
was_set w (Step.SysWrite g k bytes) d side = untouched w (Step.SysWrite g k bytes) d side refl refl (λ h s' is. cc)
was_set w (Step.Drain k n) d side = untouched w (Step.Drain k n) d side refl refl (λ h s' is. cc)
was_set w (Step.Incref g k) d side = untouched w (Step.Incref g k) d side refl refl (λ h s' is. cc)
was_set w (Step.IncrefClose g k) d side = untouched w (Step.IncrefClose g k) d side refl refl (λ h s' is. cc)
was_set w (Step.Decref g k) d side = untouched w (Step.Decref g k) d side refl refl (λ h s' is. cc)
was_set w (Step.RwLock g k s) d side = untouched w (Step.RwLock g k s) d side refl refl (λ h s' is. cc)
was_set w (Step.RwUnlock g k s) d side = untouched w (Step.RwUnlock g k s) d side refl refl (λ h s' is. cc)
was_set w (Step.Acquire g) d side = untouched w (Step.Acquire g) d side refl refl (λ h s' is. cc)
was_set w (Step.Release g) d side = untouched w (Step.Release g) d side refl refl (λ h s' is. cc)
was_set w (Step.PollOpen g k) d side = pollopen_was_set w g k d side
was_set w (Step.PollClose g e) d side = untouched w (Step.PollClose g e) d side refl refl (λ h s' is. cc)
was_set w (Step.PollReset g e s) d side = untouched w (Step.PollReset g e s) d side refl refl (λ h s' is. cc)
was_set w (Step.WaitBegin g e s) d side = untouched w (Step.WaitBegin g e s) d side refl refl (λ h s' is. cc)
was_set w (Step.BlockArm g) d side = untouched w (Step.BlockArm g) d side refl refl (λ h s' is. cc)
was_set w (Step.BlockCheck g) d side = untouched w (Step.BlockCheck g) d side refl refl (λ h s' is. cc)
was_set w (Step.ParkCommit g) d side = untouched w (Step.ParkCommit g) d side refl refl (λ h s' is. cc)
was_set w (Step.BlockSwap g) d side = untouched w (Step.BlockSwap g) d side refl refl (λ h s' is. cc)
was_set w (Step.WaitCheck g) d side = untouched w (Step.WaitCheck g) d side refl refl (λ h s' is. cc)
was_set w (Step.SetDeadline g e mode x) d side = setdeadline_was_set w g e d mode x side (names_side mode side) (d == e) refl refl
was_set w (Step.Evict g e) d side = untouched w (Step.Evict g e) d side refl refl (λ h s' is. cc)
was_set w (Step.PollEvent e tag mode error) d side = untouched w (Step.PollEvent e tag mode error) d side refl refl (λ h s' is. cc)
was_set w (Step.Tick x) d side = untouched w (Step.Tick x) d side refl refl (λ h s' is. cc)
was_set w Step.Pop d side = untouched w Step.Pop d side refl refl (λ h s' is. cc)
was_set w (Step.Fire i) d side = fire_was_set w i d side
was_set w (Step.CloseWrite g k) d side = untouched w (Step.CloseWrite g k) d side refl refl (λ h s' is. cc)

-- If a side has a deadline after a step, the step didn't open the descriptor. The side already had a
-- deadline before, or the step set it.
pub set_before : (w : World) (step : Step) (answer : Answer) (next : World) (d : ℕ) (side : Side) → outcome w step ≡ Ok (answer, next) → IsDeadline next d side
    → (IsDeadline w d side ⊎ Sets step d side) × IsNoOpening step answer d
set_before w step answer next d side is set = (was_set w step d side).value (answer, next) is set

-- ---- timeouts

by_code : (a b c : Bool) → ◌≡◌ {A = ℕ} (if a then 1 else (if b then 2 else (if c then 3 else 0))) 2 → b ≡ true
by_code true b c e = cc
by_code false true c e = refl
by_code false false true e = cc
by_code false false false e = cc

expired_by_check : (side : Side) (d : Descriptor) → check side d ≡ 2 → is_expired side d ≡ true
expired_by_check side d e = by_code d.closing (is_expired side d) _ e

same_code : (a b : ℕ) → answers.Code a ≡ answers.Code b → a ≡ b
same_code a b e = cc

-- a check with code 2 found that the deadline of the visited side has passed
abbrev TimesOut : World → Step → Answer × World → Type 0
TimesOut w step left = (v : Visit) → left.0 ≡ answers.Code 2 → visit w step ≡ Some v → IsDeadline w v.descriptor v.side

at_visit : (w : World) (o : Option Visit) (v u : Visit) → o ≡ Some v → o ≡ Some u → IsDeadline w u.descriptor u.side → IsDeadline w v.descriptor v.side
at_visit w o v u is same set = subst (λ (x : Visit). IsDeadline w x.descriptor x.side) (same_Some _ _ (sym same ∙ is)) set

pollreset_times_out : (w : World) (g e : ℕ) (s : Side) → ComesTo (TimesOut w (Step.PollReset g e s)) (pollreset g e s w)
pollreset_times_out w g e s =
    ComesTo-then (ComesTo-any (idle g w)) λ _.
    ComesTo-bind (ComesTo-open_row_of e w) λ row at.
    ComesTo-then (ComesTo-any (refused_if ((check s row.descriptor == 0) && is_waited e s w.goroutines) _)) λ _.
    ComesTo-ok
    (λ v code is. at_visit w (visit w (Step.PollReset g e s)) v (record { goroutine = g; descriptor = e; side = s }) is refl
    (expired_is_set w e s row at (expired_by_check s row.descriptor (same_code _ _ code))))

waitbegin_times_out : (w : World) (g e : ℕ) (s : Side) → ComesTo (TimesOut w (Step.WaitBegin g e s)) (waitbegin g e s w)
waitbegin_times_out w g e s =
    ComesTo-then (ComesTo-any (idle g w)) λ _.
    ComesTo-bind (ComesTo-open_row_of e w) λ row at.
    ComesTo-then (ComesTo-any (refused_if ((check s row.descriptor == 0) && is_waited e s w.goroutines) _)) λ _.
    ComesTo-ok
    (λ v code is. at_visit w (visit w (Step.WaitBegin g e s)) v (record { goroutine = g; descriptor = e; side = s }) is refl
    (expired_is_set w e s row at (expired_by_check s row.descriptor (same_code _ _ code))))

waitcheck_times_out : (w : World) (g : ℕ) → ComesTo (TimesOut w (Step.WaitCheck g)) (waitcheck g w)
waitcheck_times_out w g =
    ComesTo-bind (ComesTo-ends (Ends-status_of g w)) λ status there.
    ComesTo-bind (ComesTo-ends (Ends-checking_of status)) λ place checks.
    ComesTo-bind (ComesTo-ends (Ends-row_of place.0 w)) λ row at.
    ComesTo-ok
    (λ v code is. at_visit w (visit w (Step.WaitCheck g)) v (record { goroutine = g; descriptor = place.0; side = place.1 }) is
    (visits w g place.0 place.1 status there (ap (λ x. wait_place (CellValue.Status x)) checks))
    (expired_is_set w place.0 place.1 row at (expired_by_check place.1 row.descriptor (same_code _ _ code))))

armed_times_out : (w : World) (g e : ℕ) (s : Side) (word : WaitWord) (row : DescriptorRow) → ComesTo (TimesOut w (Step.BlockArm g)) (armed_by g e s word row w)
armed_times_out w g e s Nil row = ComesTo-ok (λ v code is. absurd (no_code code))
  where
    no_code : answers.Wait ≡ answers.Code 2 → ⊥
    no_code f = cc
armed_times_out w g e s Ready row = ComesTo-ok (λ v code is. absurd (no_code code))
  where
    no_code : answers.Code 0 ≡ answers.Code 2 → ⊥
    no_code f = cc
armed_times_out w g e s Wait row = ComesTo-refused
armed_times_out w g e s (Held h) row = ComesTo-refused

blockarm_times_out : (w : World) (g : ℕ) → ComesTo (TimesOut w (Step.BlockArm g)) (blockarm g w)
blockarm_times_out w g =
    ComesTo-bind (ComesTo-any (status_of g w)) λ status _.
    ComesTo-bind (ComesTo-any (entering_of status)) λ place _.
    ComesTo-bind (ComesTo-any (row_of place.0 w)) λ row _.
    armed_times_out w g place.0 place.1 (of_side place.1 row.descriptor.words) row

blockswap_times_out : (w : World) (g : ℕ) → ComesTo (TimesOut w (Step.BlockSwap g)) (blockswap g w)
blockswap_times_out w g =
    ComesTo-bind (ComesTo-any (status_of g w)) λ status _.
    ComesTo-bind (ComesTo-any (swapping_of status)) λ place _.
    ComesTo-bind (ComesTo-any (row_of place.0 w)) λ row _.
    ComesTo-ok (by_word (of_side place.1 row.descriptor.words) place.0 place.1 row)
  where
    yes : answers.Yes ≡ answers.Code 2 → ⊥
    yes f = cc

    no : answers.No ≡ answers.Code 2 → ⊥
    no f = cc

    by_word : (word : WaitWord) (e : ℕ) (s : Side) (row : DescriptorRow) → TimesOut w (Step.BlockSwap g) (swapped_by g e s word row w)
    by_word Ready e s row v code is = absurd (yes code)
    by_word Nil e s row v code is = absurd (no code)
    by_word Wait e s row v code is = absurd (no code)
    by_word (Held h) e s row v code is = absurd (no code)

none_visited : (w : World) (step : Step) → visit w step ≡ None → ComesTo (TimesOut w step) (outcome w step)
none_visited w step none = record { value = λ left came v code is. absurd (none-some _ (sym none ∙ is)) }

times_out : (w : World) (step : Step) → ComesTo (TimesOut w step) (outcome w step)
times_out w Step.Spawn = none_visited w Step.Spawn refl
times_out w (Step.Exit g) = none_visited w (Step.Exit g) refl
times_out w (Step.SockOpen rc wc) = none_visited w (Step.SockOpen rc wc) refl
times_out w (Step.Arrive k bytes) = none_visited w (Step.Arrive k bytes) refl
times_out w (Step.PeerClose k) = none_visited w (Step.PeerClose k) refl
times_out w (Step.SysRead g k n) = none_visited w (Step.SysRead g k n) refl
times_out w (Step.SysWrite g k bytes) = none_visited w (Step.SysWrite g k bytes) refl
times_out w (Step.Drain k n) = none_visited w (Step.Drain k n) refl
times_out w (Step.Incref g k) = none_visited w (Step.Incref g k) refl
times_out w (Step.IncrefClose g k) = none_visited w (Step.IncrefClose g k) refl
times_out w (Step.Decref g k) = none_visited w (Step.Decref g k) refl
times_out w (Step.RwLock g k s) = none_visited w (Step.RwLock g k s) refl
times_out w (Step.RwUnlock g k s) = none_visited w (Step.RwUnlock g k s) refl
times_out w (Step.Acquire g) = none_visited w (Step.Acquire g) refl
times_out w (Step.Release g) = none_visited w (Step.Release g) refl
times_out w (Step.PollOpen g k) = none_visited w (Step.PollOpen g k) refl
times_out w (Step.PollClose g e) = none_visited w (Step.PollClose g e) refl
times_out w (Step.PollReset g e s) = pollreset_times_out w g e s
times_out w (Step.WaitBegin g e s) = waitbegin_times_out w g e s
times_out w (Step.BlockArm g) = blockarm_times_out w g
times_out w (Step.BlockCheck g) = none_visited w (Step.BlockCheck g) refl
times_out w (Step.ParkCommit g) = none_visited w (Step.ParkCommit g) refl
times_out w (Step.BlockSwap g) = blockswap_times_out w g
times_out w (Step.WaitCheck g) = waitcheck_times_out w g
times_out w (Step.SetDeadline g e mode x) = none_visited w (Step.SetDeadline g e mode x) refl
times_out w (Step.Evict g e) = none_visited w (Step.Evict g e) refl
times_out w (Step.PollEvent e tag mode error) = none_visited w (Step.PollEvent e tag mode error) refl
times_out w (Step.Tick x) = none_visited w (Step.Tick x) refl
times_out w Step.Pop = none_visited w Step.Pop refl
times_out w (Step.Fire i) = none_visited w (Step.Fire i) refl
times_out w (Step.CloseWrite g k) = none_visited w (Step.CloseWrite g k) refl

-- a check with code 2 found a deadline that is set
pub timeout_is_set : (w : World) (step : Step) (next : World) (v : Visit) → outcome w step ≡ Ok (answers.Code 2, next) → visit w step ≡ Some v → IsDeadline w v.descriptor v.side
timeout_is_set w step next v is at = (times_out w step).value (answers.Code 2, next) is v refl at
