-- Closing a descriptor: no goroutine waits for it, and the free list has room for its number.
use Rattle.std.proofs.Common.{◌≡◌, ℕ, ◌<◌, true, false, [], ◌∷◌, length, Option, Result, Ok, Err, refl, sym, ap, subst, ◌∙◌, lit≤}
use Rattle.std.proofs.lemmas.Option.{same_Some}
use Rattle.nr_rev.specs.declared.answer.Answer.TheVariants.{Done}
use Rattle.nr_rev.specs.declared.descriptor.Descriptor.{Descriptor}
use Rattle.nr_rev.specs.declared.refusal.Refusal.{Refusal}
use Rattle.nr_rev.specs.declared.refusal.Refusal.TheVariants.{NoSuchDescriptor}
use Rattle.nr_rev.specs.declared.sides.Side.TheVariants.{Read, Write}
use Rattle.nr_rev.specs.Descriptor.{closed, quiet}
use Rattle.nr_rev.specs.Refusing.{◌>>=◌, found_or}
use Rattle.nr_rev.specs.Step.{idle, open_row_of, pollclose}
use Rattle.nr_rev.specs.World.{World, is_waited, with_descriptor}
use Rattle.nr_laws.proofs.FreeNumberLemmas.{closable_has_room}
use Rattle.nr_desc.specs.Code.{is_awaited}
use Rattle.nr_desc.specs.Op as desc_op
use Rattle.nr_desc.specs.declared.op.DescAnswer.{DescAnswer}
use Rattle.nr_desc.specs.declared.op.DescOp.TheVariants as op
use Rattle.nr_machine.specs.declared.delta.DescUndo.{DescUndo}
use Rattle.nr_machine.specs.declared.delta.TheConstants.{MOST_WORDS}
use Rattle.nr_machine.specs.declared.delta.WorldUndo.TheVariants.{Closed}
use Rattle.nr_machine.specs.declared.world_core.Core.{Core}
use Rattle.nr_machine.specs.Changing.{desc_outcome}
use Rattle.nr_machine.specs.Auxiliary.Changing.{Describes}
use Rattle.nr_machine.specs.Auxiliary.Changing as changing
use Rattle.nr_machine.specs.Fits.{IsWorld, PartsFit}
use Rattle.nr_machine.specs.Auxiliary.Made.{Made}
use Rattle.nr_machine.specs.World.{WorldParts, meant}
use Rattle.nr_machine.proofs.FitsLemmas.{descriptor_fits, descriptor_tied, retied, tied_then}
use Rattle.nr_machine.proofs.DescriptorLemmas.{described_means, free_fits, free_tied, opened_row, opened_there, quiet_leaves, unawaited, with_free}
use Rattle.nr_machine.proofs.RowsLemmas.{row_with}

-- what pollclose checks: goroutine g is idle, descriptor d is closing, and no goroutine is inside a
-- wait
pub record Closable (m : WorldParts) (g d : ℕ) (x : Descriptor) : Type 0 where
  pub is_idle : idle g (meant m) ≡ Ok tt
  pub found : open_row_of d (meant m) ≡ Ok (row_with m d x)
  pub closing : x.closing ≡ true
  pub nobody_reads : is_waited d Read (meant m).goroutines ≡ false
  pub nobody_writes : is_waited d Write (meant m).goroutines ≡ false

-- the core with one more free number
abbrev pub given : ℕ → Core → Core
given d core = with_free (d ∷ core.free.items) core

not_closed : (r : Result Descriptor Refusal) (e : Refusal) → ◌≡◌ {A = desc_op.Outcome} (r >>= λ y. Ok (Done, quiet y)) (Err e) → r ≡ Err e
not_closed (Ok y) e is = absurd cc
not_closed (Err f) e is = cc

module _ (m : WorldParts) (g d : ℕ) (x : Descriptor) (world : IsWorld m) (can : Closable m g d x) where
  no_reader : is_awaited x.words.read ≡ false
  no_reader = unawaited (meant m) d Read (row_with m d x) world.meaning (opened_row (meant m) d (row_with m d x) can.found).1 can.nobody_reads

  no_writer : is_awaited x.words.write ≡ false
  no_writer = unawaited (meant m) d Write (row_with m d x) world.meaning (opened_row (meant m) d (row_with m d x) can.found).1 can.nobody_writes

  close_is : desc_op.outcome x op.Close ≡ (closed x >>= λ y. Ok (Done, quiet y))
  close_is = rw (can.closing, no_reader, no_writer) refl

  pollclose_is : pollclose g d (meant m) ≡ (closed x >>= λ y. Ok (Done, record (with_descriptor d (row_with m d x) y (meant m)) { free = d ∷ m.core.free.items }))
  pollclose_is = rw (can.is_idle, can.found, can.closing, can.nobody_reads, can.nobody_writes) refl

  -- if closing the descriptor is refused, the step is refused for the same reason
  pub close_refused : (e : Refusal) → desc_outcome d op.Close m.core ≡ Err e → pollclose g d (meant m) ≡ Err e
  close_refused e refused =
      let is : desc_outcome d op.Close m.core ≡ desc_op.outcome x op.Close =
      ap (λ (o : Option Descriptor). found_or o NoSuchDescriptor >>= λ y. desc_op.outcome y op.Close) (opened_there m d x can.found) in
      let none : closed x ≡ Err e = not_closed (closed x) e (sym (is ∙ close_is) ∙ refused) in
      pollclose_is ∙ ap (λ (r : Result Descriptor Refusal). ◌>>=◌ r (λ y. Ok (Done, record (with_descriptor d (row_with m d x) y (meant m)) { free = d ∷ m.core.free.items }))) none

  -- the free list has room for one more number
  pub close_has_room : length m.core.free.items < m.core.free.room
  close_has_room =
      subst (λ (n : ℕ). length m.core.free.items < n) (sym world.parts.core.free_room)
      (closable_has_room (meant m) d world.meaning (Ok (row_with m d x)) (sym can.found))

  pub close_made : (before after : Descriptor) (answer : DescAnswer) (undo : DescUndo) (mid : Core) → Describes m.core d op.Close before after answer undo mid
      → Made (pollclose g d (meant m)) [] MOST_WORDS m Done (Closed undo) (record m { core = given d mid })
  close_made before after answer undo mid describes =
      let same : before ≡ x = same_Some before x (sym describes.there ∙ opened_there m d x can.found) in
      let step : desc_op.outcome x op.Close ≡ Ok (desc_op.left answer after) =
      subst (λ (y : Descriptor). desc_op.outcome y op.Close ≡ Ok (desc_op.left answer after)) same describes.step.defined in
      let done : closed x ≡ Ok after = quiet_leaves (closed x) answer after (sym close_is ∙ step) in
      let core : Core = changing.with_descriptor d after m.core in
      let means : meant (record m { core = given d mid }) ≡ record (with_descriptor d (row_with m d x) after (meant m)) { free = d ∷ m.core.free.items } =
      ap (λ (c : Core). meant (record m { core = given d c })) describes.rest
      ∙ ap (λ (w : World). record w { free = d ∷ m.core.free.items }) (described_means m d x after) in (
        record {
          leads = pollclose_is
              ∙ ap (λ (r : Result Descriptor Refusal). ◌>>=◌ r (λ y. Ok (Done, record (with_descriptor d (row_with m d x) y (meant m)) { free = d ∷ m.core.free.items }))) done
              ∙ ap (λ (w : World). Ok (Done, w)) (sym means);
          parts = subst (λ (c : Core). PartsFit (record m { core = given d c })) (sym describes.rest)
              (retied m (given d core) world.parts (free_fits core (d ∷ m.core.free.items) (descriptor_fits m.core d before after world.parts.core describes.there describes.fits))
              (tied_then m.core core (given d core) (descriptor_tied m.core d after) (free_tied core (d ∷ m.core.free.items))));
          timers = ap (λ (c : Core). c.timers) describes.rest;
        },
        (
          ((mid, refl, describes.back), refl),
          lit≤ tt,
        ),
      )
