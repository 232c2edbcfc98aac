-- The rows of descriptors after one changes, and after one is opened for the first time.
use Rattle.std.proofs.Common.{◌≡◌, ◌≢◌, ℕ, zero, suc, ◌+◌, ◌≤◌, List, [], ◌∷◌, ◌++◌, length, map, set, Option, Some, None, refl, sym, ap, ◌∙◌, arith}
use Rattle.std.specs.Prelude.{slice_get, slice_index_or}
use Rattle.nr_rev.specs.declared.descriptor.Descriptor.{Descriptor}
use Rattle.nr_rev.specs.declared.descriptor.DescriptorRow.{DescriptorRow}
use Rattle.nr_rev.specs.declared.sides.Side.{Side}
use Rattle.nr_rev.specs.declared.sides.Sides.{Sides}
use Rattle.nr_rev.specs.declared.timer.Entry.{Entry}
use Rattle.nr_rev.specs.declared.timer.Timer.{Timer}
use Rattle.nr_rev.specs.Sides.{twice, with_side}
use Rattle.nr_timers.specs.TimersOf.{SetsTimer, timers_of}
use Rattle.nr_timers.specs.Auxiliary.TimersOf.{AreTimers}
use Rattle.nr_machine.specs.Fits.{PartsFit}
use Rattle.nr_machine.specs.Numbered.{numbered}
use Rattle.nr_machine.specs.NumberedLaws.{numbered_at}
use Rattle.nr_machine.specs.Rows.{row_of, rows_of}
use Rattle.nr_machine.specs.World.{WorldParts, meant}
use Rattle.nr_machine.proofs.ListLemmas.{set_same}
use Rattle.nr_machine.proofs.NumberedLemmas.{length-numbered, numbered_past, numbered_push, numbered_set}

-- the row of descriptor d with these contents and the timers of the parts
abbrev pub row_with : WorldParts → ℕ → Descriptor → DescriptorRow
row_with m d x = row_of x (timers_of m.core.timers.entries d)

-- the row of a descriptor that exists
pub row_at : (descriptors : List Descriptor) (entries : List Entry) (d : ℕ) (x : Descriptor) → slice_get descriptors d ≡ Some x
    → slice_get (rows_of descriptors entries) d ≡ Some (row_of x (timers_of entries d))
row_at descriptors entries d x at = numbered_at row_of 0 d d descriptors (timers_of entries) x (omega arith) at

-- a descriptor that doesn't exist has no row
pub row_past : (descriptors : List Descriptor) (entries : List Entry) (d : ℕ) → slice_get descriptors d ≡ None
    → slice_get (rows_of descriptors entries) d ≡ None
row_past descriptors entries d at = numbered_past row_of 0 d descriptors (timers_of entries) at

pub length-rows_of : (descriptors : List Descriptor) (entries : List Entry) → length (rows_of descriptors entries) ≡ length descriptors
length-rows_of descriptors entries = length-numbered row_of 0 descriptors (timers_of entries)

-- descriptor d and its timers change, but no other descriptor's timers do
pub row_set : (descriptors : List Descriptor) (old new : List Entry) (d : ℕ) (x : Descriptor) → ((k : ℕ) → k ≢ d → timers_of new k ≡ timers_of old k)
    → rows_of (set descriptors d x) new ≡ set (rows_of descriptors old) d (row_of x (timers_of new d))
row_set descriptors old new d x others = numbered_set row_of 0 d d descriptors x (timers_of old) (timers_of new) (omega arith) others

-- descriptor d changes, but no timer does
pub descriptor_set : (descriptors : List Descriptor) (entries : List Entry) (d : ℕ) (x : Descriptor)
    → rows_of (set descriptors d x) entries ≡ set (rows_of descriptors entries) d (row_of x (timers_of entries d))
descriptor_set descriptors entries d x = row_set descriptors entries entries d x (λ k apart. refl)

-- the timer of descriptor d's side changes, or is removed
pub timer_set : (descriptors : List Descriptor) (old new : List Entry) (d : ℕ) (side : Side) (timer : Option Timer) (x : Descriptor)
    → slice_get descriptors d ≡ Some x → SetsTimer d side timer old new
    → rows_of descriptors new ≡ set (rows_of descriptors old) d (row_of x (with_side side timer (timers_of old d)))
timer_set descriptors old new d side timer x at sets =
    ap (λ (xs : List Descriptor). rows_of xs new) (sym (set_same descriptors d x at))
    ∙ row_set descriptors old new d x sets.others
    ∙ ap (λ (timers : Sides (Option Timer)). set (rows_of descriptors old) d (row_of x timers)) sets.here

-- adding a descriptor without armed timers
pub row_push : (descriptors : List Descriptor) (entries : List Entry) (x : Descriptor) → timers_of entries (length descriptors) ≡ twice None
    → rows_of (descriptors ++ x ∷ []) entries ≡ rows_of descriptors entries ++ row_of x (twice None) ∷ []
row_push descriptors entries x unarmed =
    numbered_push row_of 0 (length descriptors) descriptors x (timers_of entries) (timers_of entries) (omega arith) (λ m apart. refl)
    ∙ ap (λ (timers : Sides (Option Timer)). rows_of descriptors entries ++ row_of x timers ∷ []) unarmed

row_timers : (descriptors : List Descriptor) (k : ℕ) (beside : ℕ → Sides (Option Timer)) (d n : ℕ) → n ≡ k + d
    → (length descriptors ≤ d → beside n ≡ twice None)
    → beside n ≡ slice_index_or (map (λ (row : DescriptorRow). row.timers) (numbered row_of k descriptors beside)) d (twice None)
row_timers [] k beside d n is none = none (omega arith)
row_timers (x ∷ xs) k beside zero n is none = let here : n ≡ k = omega arith in ap beside here
row_timers (x ∷ xs) k beside (suc d) n is none = row_timers xs (suc k) beside d n (omega arith) (λ past. none (omega arith))

-- the timers of the rows are those of the heap
pub timers_are : (m : WorldParts) → PartsFit m → AreTimers m.core.timers.entries (map (λ (row : DescriptorRow). row.timers) (meant m).descriptors)
timers_are m h d = row_timers m.core.descriptors.items 0 (timers_of m.core.timers.entries) d d (omega arith) (h.unarmed d)
