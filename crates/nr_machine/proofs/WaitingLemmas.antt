-- The steps of a wait have the same outcome in the parts and in the machine.
use Rattle.std.proofs.Common.{◌≡◌, ℕ, ◌+◌, ◌^◌, ◌<◌, Bool, true, false, List, [], length, Option, Some, None, Result, Ok, Err, refl, sym, ap, subst, ◌∙◌, arith}
use Rattle.std.proofs.lemmas.Option.{slice_get_within}
use Rattle.std.specs.Prelude.{slice_get}
use Rattle.nr_rev.specs.declared.answer.Answer.{Answer}
use Rattle.nr_rev.specs.declared.descriptor.Descriptor.{Descriptor}
use Rattle.nr_rev.specs.declared.descriptor.DescriptorRow.{DescriptorRow}
use Rattle.nr_rev.specs.declared.descriptor.WaitWord.{WaitWord}
use Rattle.nr_rev.specs.declared.descriptor.WaitWord.TheVariants as word
use Rattle.nr_rev.specs.declared.limits.TheConstants.{MOST_GOROUTINES}
use Rattle.nr_rev.specs.declared.refusal.Refusal.{Refusal}
use Rattle.nr_rev.specs.declared.refusal.Refusal.TheVariants.{NoSuchDescriptor}
use Rattle.nr_rev.specs.declared.sides.Side.{Side}
use Rattle.nr_rev.specs.declared.status.Status.{Status}
use Rattle.nr_rev.specs.declared.status.Status.TheVariants.{Entering, Parking, Swapping}
use Rattle.nr_rev.specs.Refusing.{◌>>=◌, found_or}
use Rattle.nr_rev.specs.Sides.{of_side}
use Rattle.nr_rev.specs.Step.{Outcome, armed_by, blockarm, blockswap, committed_by, parkcommit, row_of as find_row, status_of, swapped_by}
use Rattle.nr_rev.specs.WellFormed.{socket_named}
use Rattle.nr_rev.specs.World.{World, with_descriptor, with_status}
use Rattle.nr_laws.proofs.WaitersLemmas.{waiters_within}
use Rattle.nr_laws.proofs.LookupLemmas.{Ends-status_of}
use Rattle.nr_desc.specs.Op as desc_op
use Rattle.nr_desc.specs.Auxiliary.Op as desc_op_auxiliary
use Rattle.nr_desc.specs.declared.op.DescAnswer.{DescAnswer}
use Rattle.nr_desc.specs.declared.op.DescOp.{DescOp}
use Rattle.nr_desc.specs.declared.op.DescOp.TheVariants as op
use Rattle.nr_gsema.specs.Applying.{IsQueuedUp}
use Rattle.nr_gsema.specs.Step.{is_movable, names_within}
use Rattle.nr_gsema.specs.declared.delta.GDelta.{GDelta}
use Rattle.nr_machine.specs.declared.delta.DescUndo.{DescUndo}
use Rattle.nr_machine.specs.declared.delta.TheConstants.{MOST_WORDS}
use Rattle.nr_machine.specs.declared.delta.WorldUndo.TheVariants.{Goroutine, Waited}
use Rattle.nr_machine.specs.declared.world_core.Core.{Core}
use Rattle.nr_machine.specs.Changing.{desc_outcome}
use Rattle.nr_machine.specs.Auxiliary.Changing.{CanMove, Describes, Moves}
use Rattle.nr_machine.specs.Auxiliary.Changing as changing
use Rattle.nr_machine.specs.Delta.{ParkBack}
use Rattle.nr_machine.specs.Fits.{CoreFits, IsWorld, PartsFit}
use Rattle.nr_machine.specs.Auxiliary.Made.{Made}
use Rattle.nr_machine.specs.Waiting.{core_parked, parks, status_after, waiting, with_parked}
use Rattle.nr_machine.specs.World.{WorldParts, meant}
use Rattle.nr_machine.proofs.DescriptorLemmas.{row_found}
use Rattle.nr_machine.proofs.FitsLemmas.{IsTiedAs, counted_fits, descriptor_fits, descriptor_tied, retied, status_fits, status_tied, tied_then}
use Rattle.nr_machine.proofs.ListLemmas.{set_same}
use Rattle.nr_machine.proofs.RowsLemmas.{descriptor_set, row_at, row_past, row_with}

-- ---- the steps, as operations on a word

-- if two functions give the same result for the row that is found, continuing with either function
-- gives the same result
by_row : {A : Type 0} (r : Result DescriptorRow Refusal) (f h : DescriptorRow → Result A Refusal) → ((row : DescriptorRow) → r ≡ Ok row → f row ≡ h row) → (r >>= f) ≡ (r >>= h)
by_row (Ok row) f h same = same row refl
by_row (Err e) f h same = refl

module _ (w : World) (g d : ℕ) (side : Side) where
  arm_by : (row : DescriptorRow) (was : WaitWord) → of_side side row.descriptor.words ≡ was
      → armed_by g d side was row w
      ≡ (desc_op.armed_by side was row.descriptor >>= λ made. Ok (made.0, with_parked (parks (op.Arm side) made.0) (with_status g (status_after d (op.Arm side) made.0) (with_descriptor d row made.1.descriptor w))))
  arm_by row word.Nil is = refl
  arm_by row word.Ready is = refl
  arm_by row word.Wait is = refl
  arm_by row (word.Held h) is = refl

  -- blockarm arms the word
  pub blockarm_is : status_of g w ≡ Ok (Entering d side) → blockarm g w ≡ waiting g d (op.Arm side) w
  blockarm_is at = rw at (by_row (find_row d w) _ _ λ row found. arm_by row (of_side side row.descriptor.words) refl)

  swap_by : (row : DescriptorRow) (was : WaitWord)
      → ◌≡◌ {A = Outcome} (Ok (swapped_by g d side was row w))
      (let made = desc_op.swapped_by side was row.descriptor in
      Ok (made.0, with_parked (parks (op.Swap side) made.0) (with_status g (status_after d (op.Swap side) made.0) (with_descriptor d row made.1.descriptor w))))
  swap_by row word.Nil = refl
  swap_by row word.Ready = refl
  swap_by row word.Wait = refl
  swap_by row (word.Held h) = refl

  -- blockswap consumes the word
  pub blockswap_is : status_of g w ≡ Ok (Swapping d side) → blockswap g w ≡ waiting g d (op.Swap side) w
  blockswap_is at = rw at (by_row (find_row d w) _ _ λ row found. swap_by row (of_side side row.descriptor.words))

  stays_row : (row : DescriptorRow) → slice_get w.descriptors d ≡ Some row → with_descriptor d row row.descriptor w ≡ w
  stays_row row at = ap (λ (rows : List DescriptorRow). record w { descriptors = rows }) (set_same w.descriptors d row at)

  commit_by : (row : DescriptorRow) (was : WaitWord) → slice_get w.descriptors d ≡ Some row
      → ◌≡◌ {A = Outcome} (Ok (committed_by g d side was row w))
      (let made = desc_op.committed_by side g was row.descriptor in
      Ok (made.0, with_parked (parks (op.Commit side g) made.0) (with_status g (status_after d (op.Commit side g) made.0) (with_descriptor d row made.1.descriptor w))))
  commit_by row word.Wait at = refl
  commit_by row word.Nil at = ap (λ (v : World). Ok (Answer.No, with_status g (Swapping d side) v)) (sym (stays_row row at))
  commit_by row word.Ready at = ap (λ (v : World). Ok (Answer.No, with_status g (Swapping d side) v)) (sym (stays_row row at))
  commit_by row (word.Held h) at = ap (λ (v : World). Ok (Answer.No, with_status g (Swapping d side) v)) (sym (stays_row row at))

  -- parkcommit commits the goroutine to the word
  pub parkcommit_is : status_of g w ≡ Ok (Parking d side) → parkcommit g w ≡ waiting g d (op.Commit side g) w
  parkcommit_is at =
      rw at (by_row (find_row d w) _ _ λ row found. commit_by row (of_side side row.descriptor.words) (row_found (slice_get w.descriptors d) row found))

-- ---- in the parts

module _ (m : WorldParts) (g d : ℕ) (o : DescOp) where
  by_descriptor : (found : Option Descriptor) (e : Refusal) → slice_get m.core.descriptors.items d ≡ found
      → ◌≡◌ {A = desc_op.Outcome} (found_or found NoSuchDescriptor >>= λ x. desc_op.outcome x o) (Err e) → waiting g d o (meant m) ≡ Err e
  by_descriptor None e at refused = rw (row_past m.core.descriptors.items m.core.timers.entries d at) (cc)
  by_descriptor (Some x) e at refused = rw (row_at m.core.descriptors.items m.core.timers.entries d x at, refused) refl

  -- if the descriptor in the parts refuses an operation, the world refuses it too
  pub waiting_refused : (e : Refusal) → desc_outcome d o m.core ≡ Err e → waiting g d o (meant m) ≡ Err e
  waiting_refused e refused = by_descriptor (slice_get m.core.descriptors.items d) e refl refused

  -- if an operation succeeds on the packed descriptor, it succeeds in the represented world too
  pub waiting_leads : (before after : Descriptor) (answer : DescAnswer) → slice_get m.core.descriptors.items d ≡ Some before → desc_op_auxiliary.StepTo before o answer after
      → waiting g d o (meant m)
      ≡ Ok (answer.answer, with_parked (parks o answer.answer) (with_status g (status_after d o answer.answer) (with_descriptor d (row_with m d before) after (meant m))))
  waiting_leads before after answer at leads =
      rw (row_at m.core.descriptors.items m.core.timers.entries d before at, leads.defined) refl

-- after an operation on a word, the goroutine is neither queued nor ended
after_movable : (d : ℕ) (o : DescOp) (answer : Answer) → is_movable (status_after d o answer) ≡ true
after_movable d (op.Arm side) Answer.Wait = refl
after_movable d (op.Arm side) _ = refl
after_movable d (op.Commit side g) Answer.Yes = refl
after_movable d (op.Commit side g) _ = refl
after_movable d (op.Swap side) Answer.No = refl
after_movable d (op.Swap side) _ = refl
after_movable d _ answer = refl

after_named : (d n : ℕ) (o : DescOp) (answer : Answer) → names_within n (socket_named (status_after d o answer)) ≡ true
after_named d n (op.Arm side) Answer.Wait = refl
after_named d n (op.Arm side) _ = refl
after_named d n (op.Commit side g) Answer.Yes = refl
after_named d n (op.Commit side g) _ = refl
after_named d n (op.Swap side) Answer.No = refl
after_named d n (op.Swap side) _ = refl
after_named d n _ answer = refl

pub wait_moves : (m : WorldParts) (g d : ℕ) (from : Status) (o : DescOp) (before after : Descriptor) (answer : DescAnswer) (undo : DescUndo) (mid : Core)
    → IsWorld m → status_of g (meant m) ≡ Ok from → is_movable from ≡ true → Describes m.core d o before after answer undo mid
    → CanMove mid g from (status_after d o answer.answer)
wait_moves m g d from o before after answer undo mid h there movable describes =
    subst (λ (core : Core). CanMove core g from (status_after d o answer.answer)) (sym describes.rest)
    (record {
      there = (Ends-status_of g (meant m)).value from there;
      from_movable = movable;
      to_movable = after_movable d o answer.answer;
      named = after_named d (length m.core.goroutines.semaphores) o answer.answer;
      queued = h.parts.core.queued;
    })

-- only a status changes
pub moved_made : (old : WorldParts) (g : ℕ) (to : Status) (answer : Answer) (delta : GDelta) (new : Core) → PartsFit old → Moves old.core g to delta new
    → Made (Ok (answer, with_status g to (meant old))) [] MOST_WORDS old answer (Goroutine delta) (record old { core = new })
moved_made old g to answer delta new parts moves =
    let core : Core = changing.with_status g to old.core in
    let queued : IsQueuedUp core.goroutines = subst (λ (c : Core). IsQueuedUp c.goroutines) moves.rest moves.queued in
    let light = moves.light in (
      record {
        leads = ap (λ (c : Core). Ok (answer, meant (record old { core = c }))) (sym moves.rest);
        parts = subst (λ (c : Core). PartsFit (record old { core = c })) (sym moves.rest)
            (retied old core parts (status_fits old.core g to parts.core queued) (status_tied old.core g to));
        timers = ap (λ (c : Core). c.timers) moves.rest;
      },
      (
        (moves.back, refl),
        omega (arith, light),
      ),
    )

-- the parts and the world have one more waiter if a goroutine parked
park_means : (m : WorldParts) (core : Core) (parked : Bool) → meant (record m { core = core_parked parked core }) ≡ with_parked parked (meant (record m { core = core }))
park_means m core true = refl
park_means m core false = refl

park_fits : (core : Core) (parked : Bool) → CoreFits core → CoreFits (core_parked parked core)
park_fits core true h = counted_fits core core.goroutines core.free core.clock (core.waiters + 1) h h.queued refl refl refl
park_fits core false h = h

park_tied : (core : Core) (parked : Bool) → IsTiedAs core (core_parked parked core)
park_tied core true = record { limits = refl; locks = refl; semaphores = λ s both past at. at; unarmed = λ h d past. h d past }
park_tied core false = record { limits = refl; locks = refl; semaphores = λ s both past at. at; unarmed = λ h d past. h d past }

parked_timers : (parked : Bool) (core : Core) → (core_parked parked core).timers ≡ core.timers
parked_timers true core = refl
parked_timers false core = refl

-- another descriptor
described_means : (m : WorldParts) (g d : ℕ) (to : Status) (before after : Descriptor)
    → meant (record m { core = changing.with_status g to (changing.with_descriptor d after m.core) })
    ≡ with_status g to (with_descriptor d (row_with m d before) after (meant m))
described_means m g d to before after =
    ap (λ (rows : List DescriptorRow). record (with_status g to (meant m)) { descriptors = rows }) (descriptor_set m.core.descriptors.items m.core.timers.entries d after)

module _ (old : WorldParts) (g d : ℕ) (o : DescOp) (answer : DescAnswer) (undo : DescUndo) (delta : GDelta) (mid moved new : Core) where
  -- the step is complete after the changes to the descriptor, the goroutine's status and the number
  -- of waiters
  pub waiting_made : (before after : Descriptor) → PartsFit old → Describes old.core d o before after answer undo mid → Moves mid g (status_after d o answer.answer) delta moved
      → new ≡ core_parked (parks o answer.answer) moved → ParkBack (parks o answer.answer) new moved
      → Made (waiting g d o (meant old)) [] MOST_WORDS old answer.answer (Waited undo delta (parks o answer.answer)) (record old { core = new })
  waiting_made before after parts describes moves parks_is park_back =
      let to : Status = status_after d o answer.answer in
      let parked : Bool = parks o answer.answer in
      let described : Core = changing.with_descriptor d after old.core in
      let core : Core = changing.with_status g to described in
      let moved_is : moved ≡ core = moves.rest ∙ ap (changing.with_status g to) describes.rest in
      let is : new ≡ core_parked parked core = parks_is ∙ ap (core_parked parked) moved_is in
      let queued : IsQueuedUp core.goroutines = subst (λ (c : Core). IsQueuedUp c.goroutines) moved_is moves.queued in
      let light = moves.light in (
        record {
          leads = waiting_leads old g d o before after answer describes.there describes.step
              ∙ ap (λ (w : World). Ok (answer.answer, w))
              (sym (ap (λ (c : Core). meant (record old { core = c })) is ∙ park_means old core parked
              ∙ ap (with_parked parked) (described_means old g d to before after)));
          parts = subst (λ (c : Core). PartsFit (record old { core = c })) (sym is)
              (retied old (core_parked parked core) parts
              (park_fits core parked (status_fits described g to (descriptor_fits old.core d before after parts.core describes.there describes.fits) queued))
              (tied_then old.core core (core_parked parked core) (tied_then old.core described core (descriptor_tied old.core d after) (status_tied described g to))
              (park_tied core parked)));
          timers = ap (λ (c : Core). c.timers) is ∙ parked_timers parked core;
        },
        (
          ((moved, park_back, (mid, moves.back, describes.back)), refl),
          omega (arith, light),
        ),
      )

-- ---- the number of goroutines that may wait

-- the number of waiters plus one fits into 64 bits
pub one_more_waits : (m : WorldParts) → IsWorld m → m.core.waiters + 1 < 2 ^ 64
one_more_waits m h =
    let most = waiters_within (meant m) h.meaning in
    let range = h.parts.core.in_range.descriptors_most in
    omega (arith, most, range)

-- a goroutine's number is below the maximum number of goroutines
pub below_most : (m : WorldParts) (g : ℕ) (status : Status) → IsWorld m → status_of g (meant m) ≡ Ok status → g < MOST_GOROUTINES
below_most m g status h there =
    let within : g < length m.core.goroutines.goroutines = slice_get_within m.core.goroutines.goroutines g status ((Ends-status_of g (meant m)).value status there) in
    let made = h.meaning.goroutines_limited in
    let range = h.parts.core.in_range.goroutines_most in
    omega (arith, within, made, range)
