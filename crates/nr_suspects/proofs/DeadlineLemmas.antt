-- A timer's firing takes effect only if its deadline is still set and its time has come.
use Rattle.std.proofs.Common.{◌≡◌, ◌≢◌, ℕ, Bool, true, false, not, Option, Some, None, Result, Ok, refl, sym, ap, subst, ◌∙◌}
use Rattle.std.specs.Prelude.{if◌then◌else◌, slice_get, remove}
use Rattle.std.proofs.lemmas.Bool.{eqb-true}
use Rattle.std.proofs.lemmas.Option.{same_Some}
use Rattle.nr_laws.proofs.AspectLemmas.{ComesTo, ComesTo-ok, ComesTo-ends, ComesTo-any, ComesTo-bind, ComesTo-then}
use Rattle.nr_laws.proofs.BoolLemmas.{not_false}
use Rattle.nr_laws.proofs.LookupLemmas.{Ends-row_of}
use Rattle.nr_rev.proofs.OutcomeLemmas.{Ends-found_or}
use Rattle.nr_rev.specs.Cell.{cell}
use Rattle.nr_rev.specs.Descriptor.{Change, change_by_firing, is_current, is_timed}
use Rattle.nr_rev.specs.Sides.{of_side, side_of_function}
use Rattle.nr_rev.specs.Refusing.{found_or, refused_unless}
use Rattle.nr_rev.specs.Step.{after_change, fire, fired_with, outcome, row_of}
use Rattle.nr_rev.specs.declared.refusal.Refusal.{Refusal}
use Rattle.nr_rev.specs.WellFormed.{FiringFits, IsDueFor, WellFormed}
use Rattle.nr_rev.specs.World.{World}
use Rattle.nr_rev.specs.declared.answer.Answer.{Answer}
use Rattle.nr_rev.specs.declared.cell.Cell.{Cell}
use Rattle.nr_rev.specs.declared.descriptor.Descriptor.{Descriptor}
use Rattle.nr_rev.specs.declared.descriptor.DescriptorRow.{DescriptorRow}
use Rattle.nr_rev.specs.declared.step.Step.{Step}
use Rattle.nr_rev.specs.declared.timer.Entry.{Entry}
use Rattle.nr_rev.specs.declared.timer.TimerFunction.{TimerFunction}
use Rattle.nr_suspects.specs.Deadlines.{IsInTime}

by_cases : {A : Type 0} {P : A → Type 0} (c : Bool) {x y : Result A Refusal} → (c ≡ true → ComesTo P x) → (c ≡ false → ComesTo P y) → ComesTo P (if c then x else y)
by_cases true a b = a refl
by_cases false a b = b refl

-- a firing that has an effect has the current sequence of its side
current_change : (f : TimerFunction) (n : ℕ) (d : Descriptor) → ComesTo (λ (change : Option Change). change ≢ None → n ≡ of_side (side_of_function f) d.sequences) (change_by_firing f n d)
current_change f n d =
    by_cases (not (is_current f n d)) (λ _. ComesTo-ok (λ differs. absurd (differs refl))) λ e.
    ComesTo-then (ComesTo-any (refused_unless (is_timed f d) Refusal.CorruptedDescriptor)) λ _.
    ComesTo-ok (λ _. eqb-true n (of_side (side_of_function f) d.sequences) (not_false (is_current f n d) e))

-- the entry that fires, and the row of its descriptor
abbrev pub FiresInTime : World → ℕ → Type 0
FiresInTime w i =
    (firing : Entry) × (row : DescriptorRow) × (slice_get w.firings i ≡ Some firing) × (slice_get w.descriptors firing.descriptor ≡ Some row) × IsInTime w row firing

in_time : (w : World) (i : ℕ) (firing : Entry) (row : DescriptorRow) → WellFormed w → slice_get w.firings i ≡ Some firing → slice_get w.descriptors firing.descriptor ≡ Some row
    → firing.timer.sequence ≡ of_side (side_of_function firing.timer.function) row.descriptor.sequences → IsInTime w row firing
in_time w i firing row h at row_at now =
    let found = h.timers.firings_fit i firing at in
    let fits : FiringFits row.descriptor firing = subst (λ (r : DescriptorRow). FiringFits r.descriptor firing) (same_Some _ _ (sym found.1 ∙ row_at)) found.2 in
    let due : IsDueFor row.descriptor firing = fits.current (now ∙ ap (λ s. of_side s row.descriptor.sequences) (sym fits.side)) in
    record { set = λ side covers. sym (due.due side covers); ahead = due.positive; come = h.clock.come i firing at }

fired : (w after : World) (i : ℕ) (firing : Entry) (row : DescriptorRow) (change : Option Change) → WellFormed w → slice_get w.firings i ≡ Some firing → slice_get w.descriptors firing.descriptor ≡ Some row
    → (change ≢ None → firing.timer.sequence ≡ of_side (side_of_function firing.timer.function) row.descriptor.sequences)
    → ComesTo (λ (left : Answer × World). left.0 ≡ Answer.Done → FiresInTime w i) (fired_with firing.descriptor row change after)
fired w after i firing row None h at row_at now = ComesTo-ok (λ done. absurd (not_done done))
  where
    not_done : Answer.Stale ≡ Answer.Done → ⊥
    not_done is = cc
fired w after i firing row (Some change) h at row_at now =
    ComesTo-bind (ComesTo-any (after_change firing.descriptor row change after)) λ next _.
    ComesTo-ok (λ _. (firing, row, at, row_at, in_time w i firing row h at row_at (now (λ none. cc))))

fire_comes : (w : World) (i : ℕ) → WellFormed w → ComesTo (λ (left : Answer × World). left.0 ≡ Answer.Done → FiresInTime w i) (fire i w)
fire_comes w i h =
    ComesTo-bind (ComesTo-ends (Ends-found_or (slice_get w.firings i) _ refl)) λ firing at.
    ComesTo-bind (ComesTo-ends (Ends-row_of firing.descriptor w)) λ row row_at.
    ComesTo-bind (current_change firing.timer.function firing.timer.sequence row.descriptor) λ change now.
    fired w (record w { firings = remove w.firings i }) i firing row change h at row_at now

pub fires_in_time : (w : World) (i : ℕ) (next : World) → WellFormed w → outcome w (Step.Fire i) ≡ Ok (Answer.Done, next) → FiresInTime w i
fires_in_time w i next h is = (fire_comes w i h).value (Answer.Done, next) is refl

-- ---- a stale firing

same_but_firings : (w : World) (i : ℕ) (c : Cell) → c ≢ Cell.Firings → cell (record w { firings = remove w.firings i }) c ≡ cell w c
same_but_firings w i Cell.Firings other = absurd (other refl)
same_but_firings w i Cell.Clock other = refl
same_but_firings w i Cell.Waiters other = refl
same_but_firings w i Cell.Timers other = refl
same_but_firings w i Cell.Least other = refl
same_but_firings w i (Cell.Goroutine g) other = refl
same_but_firings w i (Cell.Lock s) other = refl
same_but_firings w i (Cell.ReadSemaphore s) other = refl
same_but_firings w i (Cell.WriteSemaphore s) other = refl
same_but_firings w i (Cell.Input s) other = refl
same_but_firings w i (Cell.Output s) other = refl
same_but_firings w i (Cell.ReadWord d) other = refl
same_but_firings w i (Cell.WriteWord d) other = refl
same_but_firings w i (Cell.ReadDeadline d) other = refl
same_but_firings w i (Cell.WriteDeadline d) other = refl
same_but_firings w i (Cell.ReadSequence d) other = refl
same_but_firings w i (Cell.WriteSequence d) other = refl
same_but_firings w i (Cell.DescriptorSequence d) other = refl
same_but_firings w i (Cell.Info d) other = refl
same_but_firings w i (Cell.Shut s) other = refl

abbrev Keeps : World → Answer × World → Type 0
Keeps w left = left.0 ≡ Answer.Stale → (c : Cell) → c ≢ Cell.Firings → cell left.1 c ≡ cell w c

stale : (w : World) (i : ℕ) (firing : Entry) (row : DescriptorRow) (change : Option Change) → ComesTo (Keeps w) (fired_with firing.descriptor row change (record w { firings = remove w.firings i }))
stale w i firing row None = ComesTo-ok (λ _ c other. same_but_firings w i c other)
stale w i firing row (Some change) = ComesTo-bind (ComesTo-any (after_change firing.descriptor row change (record w { firings = remove w.firings i }))) λ next _. ComesTo-ok (λ is c other. absurd (not_stale is))
  where
    not_stale : Answer.Done ≡ Answer.Stale → ⊥
    not_stale is = cc

stale_comes : (w : World) (i : ℕ) → ComesTo (Keeps w) (fire i w)
stale_comes w i =
    ComesTo-bind (ComesTo-any (found_or (slice_get w.firings i) Refusal.NoSuchFiring)) λ firing _.
    ComesTo-bind (ComesTo-any (row_of firing.descriptor w)) λ row _.
    ComesTo-bind (ComesTo-any (change_by_firing firing.timer.function firing.timer.sequence row.descriptor)) λ change _.
    stale w i firing row change

pub stale_keeps : (w : World) (i : ℕ) (next : World) (c : Cell) → outcome w (Step.Fire i) ≡ Ok (Answer.Stale, next) → c ≢ Cell.Firings → cell next c ≡ cell w c
stale_keeps w i next c is other = (stale_comes w i).value (Answer.Stale, next) is refl c other
