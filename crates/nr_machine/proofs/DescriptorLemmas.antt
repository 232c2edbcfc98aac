-- Descriptors in the parts: lookups, changes to one descriptor, and the free list.
use Rattle.std.proofs.Common.{◌≡◌, ℕ, Bool, true, false, List, [], Option, Some, None, Result, Ok, Err, refl, sym, ap, subst, ◌∙◌, lit≤}
use Rattle.std.proofs.lemmas.Option.{same_Some}
use Rattle.std.specs.Prelude.{option_and_then, option_map, slice_get}
use Rattle.nr_rev.specs.declared.answer.Answer.{Answer}
use Rattle.nr_rev.specs.declared.answer.Answer.TheVariants.{Done}
use Rattle.nr_rev.specs.declared.descriptor.Descriptor.{Descriptor}
use Rattle.nr_rev.specs.declared.descriptor.DescriptorRow.{DescriptorRow}
use Rattle.nr_rev.specs.declared.descriptor.WaitWord.{WaitWord}
use Rattle.nr_rev.specs.declared.descriptor.WaitWord.TheVariants as word
use Rattle.nr_rev.specs.declared.refusal.Refusal.{Refusal}
use Rattle.nr_rev.specs.declared.refusal.Refusal.TheVariants.{NoSuchDescriptor}
use Rattle.nr_rev.specs.declared.sides.Side.{Side}
use Rattle.nr_rev.specs.declared.status.Status.{Status}
use Rattle.nr_rev.specs.declared.status.Status.TheVariants.{Armed, Parking, Parked, Swapping}
use Rattle.nr_rev.specs.Descriptor.{quiet}
use Rattle.nr_rev.specs.Refusing.{◌>>=◌, ◌>>◌, found_or, refused_if}
use Rattle.nr_rev.specs.Sides.{of_side}
use Rattle.nr_rev.specs.Step.{open_row_of, row_of as find_row}
use Rattle.nr_rev.specs.WellFormed.{HasWaitWord, WellFormed, awaiting_of, parked_of}
use Rattle.nr_rev.specs.World.{World, is_free_number, is_waited, wait_of, with_descriptor}
use Rattle.nr_laws.proofs.LookupLemmas.{nobody_inside}
use Rattle.nr_desc.specs.Code.{is_awaited}
use Rattle.nr_desc.specs.Op as desc_op
use Rattle.nr_desc.specs.declared.op.DescAnswer.{DescAnswer}
use Rattle.nr_desc.specs.declared.op.DescOp.{DescOp}
use Rattle.nr_machine.specs.declared.delta.DescUndo.{DescUndo}
use Rattle.nr_machine.specs.declared.delta.TheConstants.{MOST_WORDS}
use Rattle.nr_machine.specs.declared.delta.WorldUndo.TheVariants.{Described}
use Rattle.nr_machine.specs.declared.world_core.Core.{Core}
use Rattle.nr_machine.specs.Auxiliary.Changing.{Describes}
use Rattle.nr_machine.specs.Auxiliary.Changing as changing
use Rattle.nr_machine.specs.Fits.{CoreFits, PartsFit}
use Rattle.nr_machine.specs.Auxiliary.Made.{Made}
use Rattle.nr_machine.specs.World.{WorldParts, meant}
use Rattle.nr_machine.proofs.FitsLemmas.{IsTiedAs, counted_fits, descriptor_fits, descriptor_tied, retied}
use Rattle.nr_machine.proofs.RowsLemmas.{descriptor_set, row_at, row_past, row_with}

-- ---- wait words, and goroutines inside a wait

parked_inside : (status : Option Status) (place : ℕ × Side) → option_and_then parked_of status ≡ Some place → option_and_then wait_of status ≡ Some place
parked_inside (Some (Parked d side)) place is = is
parked_inside _ place is = cc

awaiting_inside : (status : Option Status) (place : ℕ × Side) → option_and_then awaiting_of status ≡ Some place → option_and_then wait_of status ≡ Some place
awaiting_inside (Some (Armed d side)) place is = is
awaiting_inside (Some (Parking d side)) place is = is
awaiting_inside (Some (Swapping d side)) place is = is
awaiting_inside _ place is = cc

-- if no goroutine is inside a wait for a side, the side's word is nil or ready
pub unawaited : (w : World) (d : ℕ) (side : Side) (row : DescriptorRow) → WellFormed w → slice_get w.descriptors d ≡ Some row → is_waited d side w.goroutines ≡ false
    → is_awaited (of_side side row.descriptor.words) ≡ false
unawaited w d side row h at nobody = by (of_side side row.descriptor.words) refl
  where
    has : (was : WaitWord) → of_side side row.descriptor.words ≡ was → HasWaitWord w.descriptors d side was
    has was is = ap (option_map (λ (r : DescriptorRow). of_side side r.descriptor.words)) at ∙ ap Some is

    by : (was : WaitWord) → of_side side row.descriptor.words ≡ was → is_awaited was ≡ false
    by word.Nil is = refl
    by word.Ready is = refl
    by word.Wait is =
        let who = h.words.waited d side (has word.Wait is) in
        absurd (nobody_inside w.goroutines d side who.0 nobody (awaiting_inside (slice_get w.goroutines who.0) (d, side) who.1))
    by (word.Held g) is =
        absurd (nobody_inside w.goroutines d side g nobody (parked_inside (slice_get w.goroutines g) (d, side) ((h.words.held g d side).0 (has (word.Held g) is))))

-- ---- a descriptor of the parts

-- if a lookup succeeds, the row that it returns exists
pub row_found : (o : Option DescriptorRow) (row : DescriptorRow) → found_or o NoSuchDescriptor ≡ Ok row → o ≡ Some row
row_found None row is = absurd cc
row_found (Some r) row is = cc

opened_by : (free : Bool) (o : Option DescriptorRow) (row : DescriptorRow) → (refused_if free NoSuchDescriptor >> found_or o NoSuchDescriptor) ≡ Ok row
    → (free ≡ false) × (o ≡ Some row)
opened_by true o row is = absurd cc
opened_by false o row is = (refl, row_found o row is)

-- an open descriptor exists and isn't free
pub opened_row : (w : World) (d : ℕ) (row : DescriptorRow) → open_row_of d w ≡ Ok row → (is_free_number d w.free ≡ false) × (slice_get w.descriptors d ≡ Some row)
opened_row w d row is = opened_by (is_free_number d w.free) (slice_get w.descriptors d) row is

module _ (m : WorldParts) (d : ℕ) (x : Descriptor) where
  there_by : (o : Option Descriptor) → slice_get m.core.descriptors.items d ≡ o → slice_get (meant m).descriptors d ≡ Some (row_with m d x) → o ≡ Some x
  there_by None at is = absurd (let past = row_past m.core.descriptors.items m.core.timers.entries d at in cc)
  there_by (Some y) at is =
      let rows : row_with m d y ≡ row_with m d x = same_Some _ _ (sym (row_at m.core.descriptors.items m.core.timers.entries d y at) ∙ is) in
      ap (λ (row : DescriptorRow). Some row.descriptor) rows

  -- if a lookup finds a descriptor in the world, the parts contain it too
  pub found_there : find_row d (meant m) ≡ Ok (row_with m d x) → slice_get m.core.descriptors.items d ≡ Some x
  found_there is = there_by (slice_get m.core.descriptors.items d) refl (row_found (slice_get (meant m).descriptors d) (row_with m d x) is)

  -- an open descriptor of the world exists in the parts
  pub opened_there : open_row_of d (meant m) ≡ Ok (row_with m d x) → slice_get m.core.descriptors.items d ≡ Some x
  opened_there is = there_by (slice_get m.core.descriptors.items d) refl (opened_row (meant m) d (row_with m d x) is).1

-- ---- only a descriptor changes

pub described_means : (m : WorldParts) (d : ℕ) (before after : Descriptor)
    → meant (record m { core = changing.with_descriptor d after m.core }) ≡ with_descriptor d (row_with m d before) after (meant m)
described_means m d before after =
    ap (λ (rows : List DescriptorRow). record (meant m) { descriptors = rows }) (descriptor_set m.core.descriptors.items m.core.timers.entries d after)

pub described_made : (m : WorldParts) (d : ℕ) (o : DescOp) (before after : Descriptor) (left : DescAnswer) (answer : Answer) (undo : DescUndo) (new : Core) → PartsFit m
    → Describes m.core d o before after left undo new
    → Made (Ok (answer, with_descriptor d (row_with m d before) after (meant m))) [] MOST_WORDS m answer (Described undo) (record m { core = new })
described_made m d o before after left answer undo new parts describes = (
  record {
    leads = ap (λ (w : World). Ok (answer, w)) (sym (ap (λ (core : Core). meant (record m { core = core })) describes.rest ∙ described_means m d before after));
    parts = subst (λ (core : Core). PartsFit (record m { core = core })) (sym describes.rest)
        (retied m (changing.with_descriptor d after m.core) parts (descriptor_fits m.core d before after parts.core describes.there describes.fits)
        (descriptor_tied m.core d after));
    timers = ap (λ (core : Core). core.timers) describes.rest;
  },
  (
    (describes.back, refl),
    lit≤ tt,
  ),
)

-- ---- the result of an operation

-- the outcome of an operation that has no orders and wakes no goroutine is the changed descriptor
pub quiet_leaves : (r : Result Descriptor Refusal) (answer : DescAnswer) (after : Descriptor) → ◌≡◌ {A = desc_op.Outcome} (r >>= λ y. Ok (Done, quiet y)) (Ok (desc_op.left answer after))
    → r ≡ Ok after
quiet_leaves (Ok y) answer after is = ap (λ (o : desc_op.Outcome). ◌>>=◌ {B = Descriptor} o (λ made. Ok made.1.descriptor)) is
quiet_leaves (Err e) answer after is = absurd cc

-- ---- the free numbers

-- the core with these free numbers
abbrev pub with_free : List ℕ → Core → Core
with_free free core = record core { free = record core.free { items = free } }

pub free_fits : (core : Core) (free : List ℕ) → CoreFits core → CoreFits (with_free free core)
free_fits core free h = counted_fits core core.goroutines (with_free free core).free core.clock core.waiters h h.queued refl refl refl

pub free_tied : (core : Core) (free : List ℕ) → IsTiedAs core (with_free free core)
free_tied core free = record { limits = refl; locks = refl; semaphores = λ s both past at. at; unarmed = λ h k past. h k past }
