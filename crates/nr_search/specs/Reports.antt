-- The workers' reports about segments, and how they are noted.
use Rattle.std.specs.Prelude.{◌≡◌, ℕ, ◌<◌, ◌==◌, true, List, [], ◌∷◌, length, Result, Ok, Err, if◌then◌else◌}
use Rattle.nr_search.specs.Known.{IsTrue, is_known, slot_of}
use Rattle.nr_search.specs.declared.found.Found.{Found}
use Rattle.nr_search.specs.declared.segments.Span.{Span}
use Rattle.nr_search.specs.declared.slot.Report.{Report}
use Rattle.nr_search.specs.declared.slot.Slot.{Slot}
use Rattle.nr_rev.specs.declared.memory.Memory.{Memory}
use Rattle.nr_search.specs.declared.slot.Slot.TheVariants.{Unknown, Refused, Searched}

-- what the result of a search says about its segment
abbrev pub slot_from : Result Found Memory → Slot
slot_from (Ok found) = Searched found
slot_from (Err refused) = Refused refused

-- true if a report says something about its segment and is correct
pub record IsReport (span : Span) (hits : ℕ → List ℕ) (report : Report) : Type 0 where
  pub known : is_known report.slot ≡ true
  pub holds : IsTrue span hits report.segment report.slot

-- the first slot, or the second if the first is `Unknown`
abbrev pub first_known : Slot → Slot → Slot
first_known (Searched found) said = Searched found
first_known (Refused refused) said = Refused refused
first_known Unknown said = said

-- what a report says about segment s
abbrev pub said_by : Report → ℕ → Slot
said_by report s = if report.segment == s then report.slot else Unknown

-- What one worker's reports say about segment s. If several reports are about s, the first one is
-- used.
abbrev pub said_in : List Report → ℕ → Slot
said_in [] s = Unknown
said_in (report ∷ reports) s = first_known (said_by report s) (said_in reports s)

-- What the reports of all workers say about segment s. Each worker has a row of reports. If several
-- reports are about s, the first one in the order of the rows is used.
abbrev pub noted : List (List Report) → ℕ → Slot
noted [] s = Unknown
noted (one_worker ∷ by_worker) s = first_known (said_in one_worker s) (noted by_worker s)

-- True if each slot that was `Unknown` now contains what `said` gives for its segment, and the
-- other slots are unchanged.
pub record AddsTo (slots : List Slot) (said : ℕ → Slot) (slots' : List Slot) : Type 0 where
  pub each : (s : ℕ) → s < length slots → slot_of slots' s ≡ first_known (slot_of slots s) (said s)
  pub count : length slots' ≡ length slots
