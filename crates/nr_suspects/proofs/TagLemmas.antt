-- An event takes effect only with its descriptor's tag, and a tag is never used again.
use Rattle.std.proofs.Common.{◌≡◌, ◌≢◌, ◌⊎◌, inl, inr, ℕ, ◌+◌, ◌≤◌, Bool, true, false, ◌||◌, not, List, [], ◌∷◌, length, Option, Some, None, Result, Ok, Err, refl, sym, ap, subst, ◌∙◌, arith}
use Rattle.std.specs.Prelude.{◌↔◌, ◌==◌, if◌then◌else◌, nat_lt, slice_get, slice_set}
use Rattle.std.proofs.Common.{eq-eqb}
use Rattle.std.proofs.lemmas.Bool.{eqb-false, eqb-true}
use Rattle.std.proofs.lemmas.Option.{same_Some}
use Rattle.nr_rev.specs.declared.answer.Answer.{Answer}
use Rattle.nr_rev.specs.declared.answer.Answer.TheVariants.{Done, Stale}
use Rattle.nr_rev.specs.declared.cell.Cell.{Cell}
use Rattle.nr_rev.specs.declared.cell_value.CellValue.TheVariants.{Number}
use Rattle.nr_rev.specs.declared.descriptor.Descriptor.{Descriptor}
use Rattle.nr_rev.specs.declared.descriptor.DescriptorRow.{DescriptorRow}
use Rattle.nr_rev.specs.declared.refusal.Refusal.{Refusal}
use Rattle.nr_rev.specs.declared.refusal.Refusal.TheVariants.{NoSuchDescriptor}
use Rattle.nr_rev.specs.declared.sides.Mode.{Mode}
use Rattle.nr_rev.specs.declared.sides.Side.TheVariants.{Read, Write}
use Rattle.nr_rev.specs.declared.step.Step.{Step}
use Rattle.nr_rev.specs.Aspect.{can_change}
use Rattle.nr_rev.specs.Cell.{value_or_absent}
use Rattle.nr_rev.specs.Descriptor.{both_raised, change_by_event, closed, opened_for}
use Rattle.nr_rev.specs.Kind.{kind_of}
use Rattle.nr_rev.specs.Refusing.{◌>>=◌, found_or, refused_if, refused_unless}
use Rattle.nr_rev.specs.Run.{next_of, world_after}
use Rattle.nr_rev.specs.Step.{Outcome, after_change, idle, new_row, outcome, pollclose, pollevent, pollopen, socket_of, taken}
use Rattle.nr_rev.specs.World.{World, is_free_number, is_waited}
use Rattle.nr_rev.proofs.ListUpdateLemmas.{slice_get-push_kept, slice_get-set_found, slice_get-set_here}
use Rattle.nr_rev.proofs.OutcomeLemmas.{same_parts}
use Rattle.nr_laws.proofs.AspectLemmas.{ComesTo, ComesTo-ok, ComesTo-any, ComesTo-bind, ComesTo-ends, ComesTo-then}
use Rattle.nr_laws.proofs.AspectDescriptorStepLemmas.{ComesTo-open_row_of}
use Rattle.nr_laws.proofs.AspectStepLemmas.{step_keeps_cell}
use Rattle.nr_laws.proofs.BoolLemmas.{neither_of, not_false}
use Rattle.nr_laws.proofs.LookupLemmas.{Ends-row_of}

-- ---- one event

-- the outcome of an event, given the descriptor's row
abbrev event_at : ℕ → ℕ → Mode → Bool → World → DescriptorRow → Outcome
event_at d tag mode error w row =
    if is_free_number d w.free || not (tag == row.descriptor.fdseq) then Ok (Stale, w) else (do
      next ← after_change d row (change_by_event mode error row.descriptor) w
      Ok (Done, next))

event_is : (w : World) (d tag : ℕ) (mode : Mode) (error : Bool) (row : DescriptorRow) → slice_get w.descriptors d ≡ Some row → pollevent d tag mode error w ≡ event_at d tag mode error w row
event_is w d tag mode error row at = ap (λ o. ◌>>=◌ (found_or o NoSuchDescriptor) (event_at d tag mode error w)) at

-- an event with the right tag takes effect, since its change has no orders for timers
event_done : (w : World) (d : ℕ) (mode : Mode) (error : Bool) (row : DescriptorRow) → (next : World) × (after_change d row (change_by_event mode error row.descriptor) w ≡ Ok next)
event_done w d Mode.Read error row = (_, refl)
event_done w d Mode.Write error row = (_, refl)
event_done w d Mode.Both error row = (_, refl)

abbrev by_test : (w : World) (o : Result World Refusal) → Bool → Outcome
by_test w o b = if b then Ok (Stale, w) else (◌>>=◌ o λ next. Ok (Done, next))

stale_not_done : {A : Type 0} (w v : World) → ◌≡◌ {A = Outcome} (Ok (Stale, w)) (Ok (Done, v)) → A
stale_not_done w v e = absurd (differ (same_parts Stale Done w v e).0)
  where
    differ : Stale ≡ Done → ⊥
    differ f = cc

foreign : (free : Bool) (tag own : ℕ) → (free || not (tag == own)) ≡ true → (free ≡ true) ⊎ (tag ≢ own)
foreign true tag own e = inl refl
foreign false tag own e = inr (apart (tag == own) refl e)
  where
    apart : (b : Bool) → (tag == own) ≡ b → not b ≡ true → tag ≢ own
    apart true is holds = cc
    apart false is holds = eqb-false tag own is

own_tag : (free : Bool) (tag own : ℕ) → (free || not (tag == own)) ≡ false → (free ≡ false) × (tag ≡ own)
own_tag free tag own e =
    let both = neither_of free (not (tag == own)) e in
    (both.0, eqb-true tag own (not_false (tag == own) both.1))

is_foreign : (free : Bool) (tag own : ℕ) → (free ≡ true) ⊎ (tag ≢ own) → (free || not (tag == own)) ≡ true
is_foreign true tag own e = refl
is_foreign false tag own (inl e) = cc
is_foreign false tag own (inr apart) = by (tag == own) refl
  where
    by : (b : Bool) → (tag == own) ≡ b → not (tag == own) ≡ true
    by true is = absurd (apart (eqb-true tag own is))
    by false is = ap not is

is_own : (free : Bool) (tag own : ℕ) → free ≡ false → tag ≡ own → (free || not (tag == own)) ≡ false
is_own true tag own in_use is = cc
is_own false tag own in_use is = ap not (eq-eqb tag own is)

module _ (w : World) (d tag : ℕ) (mode : Mode) (error : Bool) (row : DescriptorRow) (at : slice_get w.descriptors d ≡ Some row) where
  abbrev change_made : Result World Refusal
  change_made = after_change d row (change_by_event mode error row.descriptor) w

  abbrev test : Bool
  test = is_free_number d w.free || not (tag == row.descriptor.fdseq)

  comes : (b : Bool) → test ≡ b → outcome w (Step.PollEvent d tag mode error) ≡ by_test w change_made b
  comes b is = event_is w d tag mode error row at ∙ ap (by_test w change_made) is

  done_is : outcome w (Step.PollEvent d tag mode error) ≡ Ok (Done, (event_done w d mode error row).0) ⊎ (test ≡ true)
  done_is = by test refl
    where
      by : (b : Bool) → test ≡ b → outcome w (Step.PollEvent d tag mode error) ≡ Ok (Done, (event_done w d mode error row).0) ⊎ (test ≡ true)
      by true is = inr is
      by false is = inl (comes false is ∙ ap (λ o. ◌>>=◌ o λ (next : World). Ok (Done, next)) (event_done w d mode error row).1)

  pub stale_just_if : (outcome w (Step.PollEvent d tag mode error) ≡ Ok (Stale, w)) ↔ ((is_free_number d w.free ≡ true) ⊎ (tag ≢ row.descriptor.fdseq))
  stale_just_if = (
    λ e. elim done_is [
      | inl done ↦ stale_not_done w _ (sym e ∙ done)
      | inr is ↦ foreign (is_free_number d w.free) tag row.descriptor.fdseq is
    ],
    λ e. comes true (is_foreign (is_free_number d w.free) tag row.descriptor.fdseq e),
  )

  pub done_just_if : ((next : World) × (outcome w (Step.PollEvent d tag mode error) ≡ Ok (Done, next))) ↔ ((is_free_number d w.free ≡ false) × (tag ≡ row.descriptor.fdseq))
  done_just_if = (
    λ e. by e test refl,
    λ e. (_, comes false (is_own (is_free_number d w.free) tag row.descriptor.fdseq e.0 e.1) ∙ ap (λ o. ◌>>=◌ o λ (next : World). Ok (Done, next)) (event_done w d mode error row).1),
  )
    where
      by : ((next : World) × (outcome w (Step.PollEvent d tag mode error) ≡ Ok (Done, next))) → (b : Bool) → test ≡ b → (is_free_number d w.free ≡ false) × (tag ≡ row.descriptor.fdseq)
      by e true is = stale_not_done w e.0 (sym (comes true is) ∙ e.1)
      by e false is = own_tag (is_free_number d w.free) tag row.descriptor.fdseq is

-- ---- tags rise

-- descriptor d exists, and its tag is at least t
abbrev AtLeast : ℕ → ℕ → World → Type 0
AtLeast t d w = (row : DescriptorRow) × (slice_get w.descriptors d ≡ Some row) × (t ≤ row.descriptor.fdseq)

same_tag : (t : ℕ) (a b : Option DescriptorRow) → value_or_absent (λ (row : DescriptorRow). Number row.descriptor.fdseq) b ≡ value_or_absent (λ (row : DescriptorRow). Number row.descriptor.fdseq) a
    → (x : DescriptorRow) → a ≡ Some x → t ≤ x.descriptor.fdseq → (y : DescriptorRow) × (b ≡ Some y) × (t ≤ y.descriptor.fdseq)
same_tag t None b e x at most = cc
same_tag t (Some z) None e x at most = cc
same_tag t (Some z) (Some y) e x at most = (y, refl, subst (λ n. t ≤ n) (sym (number y.descriptor.fdseq z.descriptor.fdseq e ∙ ap (λ (r : DescriptorRow). r.descriptor.fdseq) (same_Some _ _ at))) most)
  where
    number : (m n : ℕ) → Number m ≡ Number n → m ≡ n
    number m n is = cc

abbrev Rises : ℕ → ℕ → World → Outcome → Type 0
Rises t d w o = AtLeast t d w → ComesTo (λ (left : Answer × World). AtLeast t d left.1) o

tag_kept : (t d : ℕ) (w : World) (step : Step) → can_change (kind_of step) (Cell.DescriptorSequence d) ≡ false → Rises t d w (outcome w step)
tag_kept t d w step cannot was = record {
  value = λ left is. same_tag t (slice_get w.descriptors d) (slice_get left.1.descriptors d) (step_keeps_cell w step left.0 left.1 (Cell.DescriptorSequence d) is cannot) was.0 was.1 was.2;
}

place_keeps : (t d : ℕ) (free : List ℕ) (w : World) → AtLeast t d w → ComesTo (λ (place : ℕ × World). AtLeast t d place.1) (taken free w)
place_keeps t d (e ∷ free) w was = ComesTo-ok was
place_keeps t d [] w was =
    ComesTo-then (ComesTo-any (refused_unless (nat_lt (length w.descriptors) w.limits.descriptors) _)) λ _.
    ComesTo-ok (was.0, slice_get-push_kept w.descriptors new_row was.0 d was.1, was.2)

opened_tag : (s : ℕ) (x : Descriptor) → ComesTo (λ (y : Descriptor). x.fdseq ≤ y.fdseq) (opened_for s x)
opened_tag s x = ComesTo-bind (ComesTo-any (both_raised x.sequences)) λ sequences _. ComesTo-ok (by (x.fdseq == 0) refl)
  where
    by : (b : Bool) → (x.fdseq == 0) ≡ b → x.fdseq ≤ (if b then 1 else x.fdseq)
    by true is = let none = eqb-true x.fdseq 0 is in omega (arith, none)
    by false is = omega arith

closed_tag : (x : Descriptor) → ComesTo (λ (y : Descriptor). x.fdseq + 1 ≤ y.fdseq) (closed x)
closed_tag x =
    ComesTo-bind {P = λ n. n ≡ x.fdseq + 1} (ComesTo-then (ComesTo-any (refused_unless _ Refusal.LastNumber)) λ _. ComesTo-ok refl) λ fdseq is.
    ComesTo-ok (at_most is)
  where
    at_most : {n : ℕ} → n ≡ x.fdseq + 1 → x.fdseq + 1 ≤ n
    at_most is = omega (arith, is)

-- if a descriptor's tag is at least t, it still is after a row is replaced by one with an equal or
-- higher tag
row_rises : (t d e : ℕ) (w : World) (row new : DescriptorRow) → slice_get w.descriptors e ≡ Some row → row.descriptor.fdseq ≤ new.descriptor.fdseq → AtLeast t d w
    → (y : DescriptorRow) × (slice_get (slice_set w.descriptors e new) d ≡ Some y) × (t ≤ y.descriptor.fdseq)
row_rises t d e w row new at more was =
    slice_get-set_found (λ (x : DescriptorRow). t ≤ x.descriptor.fdseq) w.descriptors e row new d was.0 at (λ same most. omega (arith, most, more)) was.1 was.2

pollopen_rises : (t d : ℕ) (w : World) (g s : ℕ) → Rises t d w (pollopen g s w)
pollopen_rises t d w g s was =
    ComesTo-then (ComesTo-any (idle g w)) λ _.
    ComesTo-bind (ComesTo-any (socket_of s w)) λ _ _.
    ComesTo-bind (place_keeps t d w.free w was) λ place kept.
    ComesTo-bind (ComesTo-ends (Ends-row_of place.0 place.1)) λ row at.
    ComesTo-bind (opened_tag s row.descriptor) λ descriptor more.
    ComesTo-ok (row_rises t d place.0 place.1 row (record row { descriptor = descriptor }) at more kept)

pollclose_rises : (t d : ℕ) (w : World) (g e : ℕ) → Rises t d w (pollclose g e w)
pollclose_rises t d w g e was =
    ComesTo-then (ComesTo-any (idle g w)) λ _.
    ComesTo-bind (ComesTo-open_row_of e w) λ row at.
    ComesTo-then (ComesTo-any (refused_unless row.descriptor.closing _)) λ _.
    ComesTo-then (ComesTo-any (refused_if (is_waited e Read w.goroutines || is_waited e Write w.goroutines) _)) λ _.
    ComesTo-bind (closed_tag row.descriptor) λ descriptor more.
    ComesTo-ok (row_rises t d e w row (record row { descriptor = descriptor }) at (omega (arith, more)) was)

-- a close raises the tag
close_raises : (w : World) (g d : ℕ) (row : DescriptorRow) → slice_get w.descriptors d ≡ Some row → ComesTo (λ (left : Answer × World). AtLeast (row.descriptor.fdseq + 1) d left.1) (pollclose g d w)
close_raises w g d row there =
    ComesTo-then (ComesTo-any (idle g w)) λ _.
    ComesTo-bind (ComesTo-open_row_of d w) λ found at.
    ComesTo-then (ComesTo-any (refused_unless found.descriptor.closing _)) λ _.
    ComesTo-then (ComesTo-any (refused_if (is_waited d Read w.goroutines || is_waited d Write w.goroutines) _)) λ _.
    ComesTo-bind (closed_tag found.descriptor) λ descriptor more.
    ComesTo-ok (
      record found { descriptor = descriptor },
      slice_get-set_here w.descriptors d found (record found { descriptor = descriptor }) at,
      subst (λ (x : DescriptorRow). x.descriptor.fdseq + 1 ≤ descriptor.fdseq) (same_Some _ _ (sym at ∙ there)) more,
    )

-- the law for every kind of step
rises : (t d : ℕ) (w : World) (step : Step) → Rises t d w (outcome w step)
rises t d w (Step.PollOpen g s) = pollopen_rises t d w g s
rises t d w (Step.PollClose g e) = pollclose_rises t d w g e
rises t d w Step.Spawn = tag_kept t d w Step.Spawn refl
rises t d w (Step.Exit g) = tag_kept t d w (Step.Exit g) refl
rises t d w (Step.SockOpen rc wc) = tag_kept t d w (Step.SockOpen rc wc) refl
rises t d w (Step.Arrive k bytes) = tag_kept t d w (Step.Arrive k bytes) refl
rises t d w (Step.PeerClose k) = tag_kept t d w (Step.PeerClose k) refl
rises t d w (Step.SysRead g k n) = tag_kept t d w (Step.SysRead g k n) refl
rises t d w (Step.SysWrite g k bytes) = tag_kept t d w (Step.SysWrite g k bytes) refl
rises t d w (Step.Drain k n) = tag_kept t d w (Step.Drain k n) refl
rises t d w (Step.Incref g k) = tag_kept t d w (Step.Incref g k) refl
rises t d w (Step.IncrefClose g k) = tag_kept t d w (Step.IncrefClose g k) refl
rises t d w (Step.Decref g k) = tag_kept t d w (Step.Decref g k) refl
rises t d w (Step.RwLock g k side) = tag_kept t d w (Step.RwLock g k side) refl
rises t d w (Step.RwUnlock g k side) = tag_kept t d w (Step.RwUnlock g k side) refl
rises t d w (Step.Acquire g) = tag_kept t d w (Step.Acquire g) refl
rises t d w (Step.Release g) = tag_kept t d w (Step.Release g) refl
rises t d w (Step.PollReset g e side) = tag_kept t d w (Step.PollReset g e side) refl
rises t d w (Step.WaitBegin g e side) = tag_kept t d w (Step.WaitBegin g e side) refl
rises t d w (Step.BlockArm g) = tag_kept t d w (Step.BlockArm g) refl
rises t d w (Step.BlockCheck g) = tag_kept t d w (Step.BlockCheck g) refl
rises t d w (Step.ParkCommit g) = tag_kept t d w (Step.ParkCommit g) refl
rises t d w (Step.BlockSwap g) = tag_kept t d w (Step.BlockSwap g) refl
rises t d w (Step.WaitCheck g) = tag_kept t d w (Step.WaitCheck g) refl
rises t d w (Step.SetDeadline g e mode x) = tag_kept t d w (Step.SetDeadline g e mode x) refl
rises t d w (Step.Evict g e) = tag_kept t d w (Step.Evict g e) refl
rises t d w (Step.PollEvent e tag mode error) = tag_kept t d w (Step.PollEvent e tag mode error) refl
rises t d w (Step.Tick x) = tag_kept t d w (Step.Tick x) refl
rises t d w Step.Pop = tag_kept t d w Step.Pop refl
rises t d w (Step.Fire i) = tag_kept t d w (Step.Fire i) refl
rises t d w (Step.CloseWrite g k) = tag_kept t d w (Step.CloseWrite g k) refl

run_rises : (t d : ℕ) (w : World) (steps : List Step) → AtLeast t d w → AtLeast t d (world_after w steps)
run_rises t d w [] was = was
run_rises t d w (step ∷ steps) was = run_rises t d (next_of w (outcome w step)) steps (go (outcome w step) refl)
  where
    go : (o : Outcome) → outcome w step ≡ o → AtLeast t d (next_of w o)
    go (Ok left) e = (rises t d w step was).value left e
    go (Err reason) e = was

pub earlier_is_stale : (w : World) (g d tag : ℕ) (mode : Mode) (error : Bool) (row : DescriptorRow) (answer : Answer) (next : World) (steps : List Step) → slice_get w.descriptors d ≡ Some row
    → outcome w (Step.PollClose g d) ≡ Ok (answer, next) → tag ≤ row.descriptor.fdseq
    → outcome (world_after next steps) (Step.PollEvent d tag mode error) ≡ Ok (Stale, world_after next steps)
earlier_is_stale w g d tag mode error row answer next steps there is most =
    let later = run_rises (row.descriptor.fdseq + 1) d next steps ((close_raises w g d row there).value (answer, next) is) in
    (stale_just_if (world_after next steps) d tag mode error later.0 later.1).1 (inr (apart later.0.descriptor.fdseq later.2))
  where
    apart : (own : ℕ) → row.descriptor.fdseq + 1 ≤ own → tag ≢ own
    apart own above same = omega (arith, most, above, same)
