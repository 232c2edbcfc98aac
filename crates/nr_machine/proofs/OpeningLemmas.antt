-- Opening a descriptor, the one with the first free number or a new one.
use Rattle.std.proofs.Common.{◌≡◌, ℕ, suc, ◌<◌, ◌≤◌, true, false, List, [], ◌∷◌, ◌++◌, length, drop, Some, None, Ok, Err, ⊎_elim, refl, sym, ap, ◌∙◌, arith, lit≤, length-append}
use Rattle.std.proofs.Math.Seq.{set-append_seam}
use Rattle.std.proofs.lemmas.Bool.Decides.{nat_tests}
use Rattle.std.proofs.lemmas.Option.{slice_get_cases, slice_get_past}
use Rattle.std.specs.Prelude.{nat_lt, slice_get}
use Rattle.nr_rev.specs.declared.answer.Answer.TheVariants.{Number}
use Rattle.nr_rev.specs.declared.descriptor.Descriptor.{Descriptor}
use Rattle.nr_rev.specs.declared.descriptor.DescriptorRow.{DescriptorRow}
use Rattle.nr_rev.specs.declared.refusal.Refusal.TheVariants.{NoSuchSocket, TableFull}
use Rattle.nr_rev.specs.Descriptor.{never_opened, opened_for}
use Rattle.nr_rev.specs.Step.{idle, new_row, pollopen, row_of as find_row}
use Rattle.nr_rev.specs.World.{World, with_descriptor}
use Rattle.nr_rev.proofs.ListUpdateLemmas.{slice_get-push_all}
use Rattle.nr_desc.specs.Desc.{DescFits}
use Rattle.nr_desc.specs.Auxiliary.Op as desc_op
use Rattle.nr_desc.specs.declared.op.DescAnswer.{DescAnswer}
use Rattle.nr_desc.specs.declared.op.DescOp.TheVariants as op
use Rattle.nr_desc.specs.declared.reversible.DescDelta.{DescDelta}
use Rattle.nr_machine.specs.declared.delta.TheConstants.{MOST_WORDS}
use Rattle.nr_machine.specs.declared.delta.WorldUndo.TheVariants as undo
use Rattle.nr_machine.specs.declared.world_core.Core.{Core}
use Rattle.nr_machine.specs.Auxiliary.Changing as changing
use Rattle.nr_machine.specs.Delta.{TakeBack}
use Rattle.nr_machine.specs.Fits.{CoreFits, IsWorld, PartsFit}
use Rattle.nr_machine.specs.Auxiliary.Made.{Made}
use Rattle.nr_machine.specs.Opening.{opening, opening_of}
use Rattle.nr_machine.specs.World.{WorldParts, meant}
use Rattle.nr_machine.proofs.ChangingLemmas.{described_back}
use Rattle.nr_machine.proofs.FitsLemmas.{IsTiedAs, descriptor_fits, descriptor_tied, descriptors_fit, retied, tied_then}
use Rattle.nr_machine.proofs.DescriptorLemmas.{described_means, found_there, free_fits, free_tied, quiet_leaves, with_free}
use Rattle.nr_machine.proofs.ListLemmas.{without_last}
use Rattle.nr_machine.proofs.RowsLemmas.{length-rows_of, row_push, row_with}
use Rattle.nr_machine.proofs.SocketsLemmas.{socket_at, socket_past}

-- ---- the socket and the number

-- the socket doesn't exist
pub opening_nowhere : (m : WorldParts) (g s : ℕ) → idle g (meant m) ≡ Ok tt → length m.core.locks.items ≤ s → pollopen g s (meant m) ≡ Err NoSuchSocket
opening_nowhere m g s is_idle past =
    rw (is_idle, socket_past m.core.locks.items m.core.goroutines.semaphores m.socks s (slice_get_past m.core.locks.items s past)) refl

-- an idle goroutine, and an existing socket
pub opening_is : (m : WorldParts) (g s : ℕ) → idle g (meant m) ≡ Ok tt → s < length m.core.locks.items
    → pollopen g s (meant m) ≡ opening_of s m.core.free.items (meant m)
opening_is m g s is_idle within =
    ⊎_elim (λ found. rw (is_idle, socket_at m.core.locks.items m.core.goroutines.semaphores m.socks s found.0 found.2) refl) (λ past. absurd (let most = past.0 in omega arith))
    (slice_get_cases m.core.locks.items s).1

-- no number is free
pub none_free : (free : List ℕ) → slice_get free 0 ≡ None → free ≡ []
none_free [] is = refl
none_free (d ∷ free) is = cc

-- the first free number
first_free : (free : List ℕ) (d : ℕ) → slice_get free 0 ≡ Some d → free ≡ d ∷ drop 1 free
first_free [] d is = cc
first_free (e ∷ free) d is = let same : e ≡ d = cc in ap (λ (n : ℕ). n ∷ free) same

-- ---- a new one

-- the table of descriptors is full
pub opening_full : (m : WorldParts) (s : ℕ) → m.core.limits.descriptors ≤ length m.core.descriptors.items → opening_of s [] (meant m) ≡ Err TableFull
opening_full m s most =
    let made = length-rows_of m.core.descriptors.items m.core.timers.entries in
    let full : nat_lt (length (meant m).descriptors) m.core.limits.descriptors ≡ false = grind (arith, nat_tests) in
    rw full refl

slice_get-seam : {A : Type 0} (xs : List A) (x : A) → slice_get (xs ++ x ∷ []) (length xs) ≡ Some x
slice_get-seam [] x = refl
slice_get-seam (y ∷ xs) x = slice_get-seam xs x

-- the last descriptor is opened
opening_last : (s : ℕ) (w : World) (rows : List DescriptorRow) (row : DescriptorRow) (after : Descriptor) → opened_for s row.descriptor ≡ Ok after
    → opening s (length rows) (record w { descriptors = rows ++ row ∷ [] })
    ≡ Ok (Number (length rows), record w { descriptors = rows ++ record row { descriptor = after } ∷ [] })
opening_last s w rows row after opens = rw (slice_get-seam rows row, opens, set-append_seam rows row [] (record row { descriptor = after })) refl

-- the core with one more descriptor
abbrev pub with_last : Descriptor → Core → Core
with_last x core = record core { descriptors = record core.descriptors { items = core.descriptors.items ++ x ∷ [] } }

last_fits : (core : Core) (x : Descriptor) → CoreFits core → DescFits x → CoreFits (with_last x core)
last_fits core x h fits = descriptors_fit core (with_last x core).descriptors.items h (slice_get-push_all DescFits core.descriptors.items x fits h.descriptors)

last_tied : (core : Core) (x : Descriptor) → IsTiedAs core (with_last x core)
last_tied core x =
    record {
      limits = refl;
      locks = refl;
      semaphores = λ s both past at. at;
      unarmed = λ h d past. h d (let one_more = length-append core.descriptors.items (x ∷ []) in omega arith);
    }

opening_leads : (m : WorldParts) (s : ℕ) (after : Descriptor) → PartsFit m → length m.core.descriptors.items < m.core.limits.descriptors → opened_for s never_opened ≡ Ok after
    → opening_of s [] (meant m) ≡ Ok (Number (length m.core.descriptors.items), meant (record m { core = with_last after m.core }))
opening_leads m s after parts fewer opens =
    let items : List Descriptor = m.core.descriptors.items in
    let rows : List DescriptorRow = (meant m).descriptors in
    let made : length rows ≡ length items = length-rows_of items m.core.timers.entries in
    let room : nat_lt (length rows) m.core.limits.descriptors ≡ true = grind (arith, nat_tests) in
    let taken_is : opening_of s [] (meant m) ≡ opening s (length rows) (record (meant m) { descriptors = rows ++ new_row ∷ [] }) = rw room refl in
    let pushed = sym (row_push items m.core.timers.entries after (parts.unarmed (length items) (omega arith))) in
    taken_is ∙ opening_last s (meant m) rows new_row after opens
    ∙ (λ i. Ok (Number (made i), record (meant m) { descriptors = pushed i }))

-- a descriptor before its first opening
pub opening_made : (m : WorldParts) (s : ℕ) (after : Descriptor) (answer : DescAnswer) → IsWorld m → length m.core.descriptors.items < m.core.limits.descriptors
    → desc_op.StepTo never_opened (op.Open s) answer after → DescFits after
    → Made (opening_of s [] (meant m)) [] MOST_WORDS m (Number (length m.core.descriptors.items)) undo.Made (record m { core = with_last after m.core })
opening_made m s after answer world fewer step fits = (
  record {
    leads = opening_leads m s after world.parts fewer (quiet_leaves (opened_for s never_opened) answer after step.defined);
    parts = retied m (with_last after m.core) world.parts (last_fits m.core after world.parts.core fits) (last_tied m.core after);
    timers = refl;
  },
  (
    (ap (λ (xs : List Descriptor). record m.core { descriptors = record m.core.descriptors { items = xs } }) (without_last m.core.descriptors.items after), refl),
    lit≤ tt,
  ),
)

-- ---- a free one

-- the core without its first free number
abbrev pub without_first : Core → Core
without_first core = with_free (drop 1 core.free.items) core

first_back : (core : Core) (d : ℕ) → slice_get core.free.items 0 ≡ Some d → length core.free.items ≤ core.free.room → TakeBack d (without_first core) core
first_back core d first most =
    let is : core.free.items ≡ d ∷ drop 1 core.free.items = first_free core.free.items d first in
    let more : length core.free.items ≡ suc (length (drop 1 core.free.items)) = ap length is in
    (omega arith, ap (λ (free : List ℕ). record core { free = record core.free { items = free } }) is)

-- the descriptor with the first free number is opened
pub reopening_made : (m : WorldParts) (s d : ℕ) (x after : Descriptor) (answer : DescAnswer) (before : DescDelta) → IsWorld m → slice_get m.core.free.items 0 ≡ Some d
    → length m.core.free.items ≤ m.core.free.room → find_row d (meant m) ≡ Ok (row_with m d x) → desc_op.StepTo x (op.Open s) answer after → DescFits after → x ≡ before.before
    → Made (opening_of s m.core.free.items (meant m)) [] MOST_WORDS m (Number d) (undo.Reopened (record { descriptor = d; before = before }))
    (record m { core = changing.with_descriptor d after (without_first m.core) })
reopening_made m s d x after answer before world first most found step fits was =
    let mid : Core = without_first m.core in
    let there : slice_get m.core.descriptors.items d ≡ Some x = found_there m d x found in
    let opens : opened_for s x ≡ Ok after = quiet_leaves (opened_for s x) answer after step.defined in
    let leads : opening_of s (d ∷ drop 1 m.core.free.items) (meant m) ≡ Ok (Number d, with_descriptor d (row_with m d x) after (meant (record m { core = mid }))) =
    rw (found, opens) refl in (
      record {
        leads = ap (λ (free : List ℕ). opening_of s free (meant m)) (first_free m.core.free.items d first) ∙ leads
            ∙ ap (λ (w : World). Ok (Number d, w)) (sym (described_means (record m { core = mid }) d x after));
        parts = retied m (changing.with_descriptor d after mid) world.parts (descriptor_fits mid d x after (free_fits m.core (drop 1 m.core.free.items) world.parts.core) there fits)
            (tied_then m.core mid (changing.with_descriptor d after mid) (free_tied m.core (drop 1 m.core.free.items)) (descriptor_tied mid d after));
        timers = refl;
      },
      (
        (
          (mid, described_back mid (changing.with_descriptor d after mid) d after before.before (there ∙ ap (λ (y : Descriptor). Some y) was) refl, first_back m.core d first most),
          refl,
        ),
        lit≤ tt,
      ),
    )
