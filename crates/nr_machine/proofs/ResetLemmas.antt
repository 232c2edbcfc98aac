-- Resetting a side for the next wait, if nothing forbids a wait and no goroutine is inside one.
use Rattle.std.proofs.Common.{◌≡◌, ℕ, false, [], Option, Ok, Err, refl, sym, ap, subst, ◌∙◌}
use Rattle.std.proofs.lemmas.Option.{same_Some}
use Rattle.nr_rev.specs.declared.answer.Answer.TheVariants.{Code}
use Rattle.nr_rev.specs.declared.descriptor.Descriptor.{Descriptor}
use Rattle.nr_rev.specs.declared.descriptor.WaitWord.TheVariants as word
use Rattle.nr_rev.specs.declared.refusal.Refusal.{Refusal}
use Rattle.nr_rev.specs.declared.refusal.Refusal.TheVariants.{NoSuchDescriptor}
use Rattle.nr_rev.specs.declared.sides.Side.{Side}
use Rattle.nr_rev.specs.Descriptor.{check, quiet, with_wait_word}
use Rattle.nr_rev.specs.Refusing.{◌>>=◌, found_or}
use Rattle.nr_rev.specs.Sides.{of_side}
use Rattle.nr_rev.specs.Step.{Outcome, idle, open_row_of, pollreset}
use Rattle.nr_rev.specs.World.{is_waited, with_descriptor}
use Rattle.nr_desc.specs.Code.{is_awaited}
use Rattle.nr_desc.specs.Op as desc_op
use Rattle.nr_desc.specs.declared.op.DescAnswer.{DescAnswer}
use Rattle.nr_desc.specs.declared.op.DescOp.TheVariants as op
use Rattle.nr_machine.specs.declared.delta.DescUndo.{DescUndo}
use Rattle.nr_machine.specs.declared.delta.TheConstants.{MOST_WORDS}
use Rattle.nr_machine.specs.declared.delta.WorldUndo.TheVariants.{Described}
use Rattle.nr_machine.specs.declared.world_core.Core.{Core}
use Rattle.nr_machine.specs.Changing.{desc_outcome}
use Rattle.nr_machine.specs.Auxiliary.Changing.{Describes}
use Rattle.nr_machine.specs.Fits.{IsWorld}
use Rattle.nr_machine.specs.Auxiliary.Made.{Made}
use Rattle.nr_machine.specs.World.{WorldParts, meant}
use Rattle.nr_machine.proofs.DescriptorLemmas.{described_made, opened_row, opened_there, unawaited}
use Rattle.nr_machine.proofs.RowsLemmas.{row_with}

-- the descriptor after an operation
abbrev pub left_of : Descriptor → desc_op.Outcome → Descriptor
left_of x (Ok made) = made.1.descriptor
left_of x (Err e) = x

-- what pollreset checks: goroutine g is idle, nothing forbids a wait on the side, and no goroutine
-- is inside one
pub record Resettable (m : WorldParts) (g d : ℕ) (side : Side) (x : Descriptor) : Type 0 where
  pub is_idle : idle g (meant m) ≡ Ok tt
  pub found : open_row_of d (meant m) ≡ Ok (row_with m d x)
  pub unhindered : check side x ≡ 0
  pub nobody : is_waited d side (meant m).goroutines ≡ false

module _ (m : WorldParts) (g d : ℕ) (side : Side) (x : Descriptor) (world : IsWorld m) (can : Resettable m g d side x) where
  nobody_awaited : is_awaited (of_side side x.words) ≡ false
  nobody_awaited = unawaited (meant m) d side (row_with m d x) world.meaning (opened_row (meant m) d (row_with m d x) can.found).1 can.nobody

  reset_is : desc_op.outcome x (op.Reset side) ≡ Ok (Code 0, quiet (with_wait_word side word.Nil x))
  reset_is = rw (can.unhindered, nobody_awaited) refl

  -- the reset isn't refused
  pub reset_applies : (e : Refusal) → desc_outcome d (op.Reset side) m.core ≡ Err e → ⊥
  reset_applies e refused =
      let is : desc_outcome d (op.Reset side) m.core ≡ desc_op.outcome x (op.Reset side) =
      ap (λ (o : Option Descriptor). found_or o NoSuchDescriptor >>= λ y. desc_op.outcome y (op.Reset side)) (opened_there m d x can.found) in
      let applies = reset_is in
      cc

  -- the word of the side becomes nil
  pub reset_made : (before after : Descriptor) (answer : DescAnswer) (undo : DescUndo) (new : Core) → Describes m.core d (op.Reset side) before after answer undo new
      → Made (pollreset g d side (meant m)) [] MOST_WORDS m (Code 0) (Described undo) (record m { core = new })
  reset_made before after answer undo new describes =
      let same : before ≡ x = same_Some before x (sym describes.there ∙ opened_there m d x can.found) in
      let step : desc_op.outcome x (op.Reset side) ≡ Ok (desc_op.left answer after) =
      subst (λ (y : Descriptor). desc_op.outcome y (op.Reset side) ≡ Ok (desc_op.left answer after)) same describes.step.defined in
      let is_after : with_wait_word side word.Nil x ≡ after = ap (left_of x) (sym reset_is ∙ step) in
      let leads : pollreset g d side (meant m) ≡ Ok (Code 0, with_descriptor d (row_with m d x) after (meant m)) =
      rw (can.is_idle, can.found, can.unhindered, can.nobody, ← is_after) refl in
      subst (λ (due : Outcome). Made due [] MOST_WORDS m (Code 0) (Described undo) (record m { core = new })) (sym leads)
      (described_made m d (op.Reset side) before after answer (Code 0) undo new world.parts describes)
