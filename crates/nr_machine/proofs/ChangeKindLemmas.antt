-- Steps that change a descriptor with its timers are operations on the descriptor.
use Rattle.std.proofs.Common.{◌≡◌, ℕ, List, Option, Some, None, ℤ, Result, Ok, Err, refl, sym, ap}
use Rattle.std.specs.Prelude.{remove, slice_get}
use Rattle.nr_rev.specs.declared.answer.Answer.{Answer}
use Rattle.nr_rev.specs.declared.answer.Answer.TheVariants.{Done, Stale}
use Rattle.nr_rev.specs.declared.descriptor.DescriptorRow.{DescriptorRow}
use Rattle.nr_rev.specs.declared.refusal.Refusal.{Refusal}
use Rattle.nr_rev.specs.declared.refusal.Refusal.TheVariants.{NoSuchDescriptor}
use Rattle.nr_rev.specs.declared.sides.Mode.{Mode}
use Rattle.nr_rev.specs.declared.timer.Entry.{Entry}
use Rattle.nr_rev.specs.Descriptor.{Change, change_by_deadline, change_by_evict, change_by_firing}
use Rattle.nr_rev.specs.Refusing.{◌>>=◌, found_or}
use Rattle.nr_rev.specs.Step.{Outcome, after_change, evict, fire, fired_with, idle, open_row_of, row_of as find_row, setdeadline}
use Rattle.nr_rev.specs.World.{World}
use Rattle.nr_desc.specs.Op as desc_op
use Rattle.nr_desc.specs.declared.op.DescOp.TheVariants as op
use Rattle.nr_machine.specs.Continuing.{changing}
use Rattle.nr_machine.proofs.DescriptorLemmas.{opened_row, row_found}
use Rattle.nr_machine.proofs.ListLemmas.{set_same}

-- looking up an open descriptor finds its row
open_row_found : (d : ℕ) (w : World) (row : DescriptorRow) → open_row_of d w ≡ Ok row → find_row d w ≡ Ok row
open_row_found d w row is = ap (λ (o : Option DescriptorRow). found_or o NoSuchDescriptor) (opened_row w d row is).1

-- the rest of a step after the descriptor's change and answer are computed
abbrev rest_of : ℕ → DescriptorRow → World → Answer × Change → Outcome
rest_of d row w made = after_change d row made.1 w >>= λ next. Ok (made.0, next)

-- a change with the answer Done
done_is : (r : Result Change Refusal) (d : ℕ) (row : DescriptorRow) (w : World) → (r >>= λ change. rest_of d row w (Done, change)) ≡ (desc_op.done r >>= rest_of d row w)
done_is (Ok change) d row w = refl
done_is (Err e) d row w = refl

module _ (g d : ℕ) (w : World) (row : DescriptorRow) (idles : idle g w ≡ Ok tt) (opened : open_row_of d w ≡ Ok row) where
  pub setdeadline_is : (mode : Mode) (t : ℤ) → setdeadline g d mode t w ≡ changing d (op.SetDeadline w.clock mode t) w
  setdeadline_is mode t = rw (idles, opened, open_row_found d w row opened) (done_is (change_by_deadline w.clock mode t row.descriptor) d row w)

  pub evict_is : evict g d w ≡ changing d op.Evict w
  evict_is = rw (idles, opened, open_row_found d w row opened) (done_is (change_by_evict row.descriptor) d row w)

-- ---- a firing

fired_is : (r : Result (Option Change) Refusal) (d : ℕ) (row : DescriptorRow) (w : World) → slice_get w.descriptors d ≡ Some row
    → (r >>= λ change. fired_with d row change w) ≡ (desc_op.fire_by r row.descriptor >>= rest_of d row w)
fired_is (Ok (Some change)) d row w there = refl
fired_is (Ok None) d row w there = ap (λ (rows : List DescriptorRow). Ok (Stale, record w { descriptors = rows })) (sym (set_same w.descriptors d row there))
fired_is (Err e) d row w there = refl

pub fire_is : (place : ℕ) (w : World) (entry : Entry) (row : DescriptorRow) → slice_get w.firings place ≡ Some entry → find_row entry.descriptor w ≡ Ok row
    → fire place w ≡ changing entry.descriptor (op.Fire entry.timer.function entry.timer.sequence) (record w { firings = remove w.firings place })
fire_is place w entry row there found =
    rw (there, found)
    (fired_is (change_by_firing entry.timer.function entry.timer.sequence row.descriptor) entry.descriptor row (record w { firings = remove w.firings place })
    (row_found (slice_get w.descriptors entry.descriptor) row found))
