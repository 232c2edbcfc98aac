-- What is known about the segments that a search goes through.
use Rattle.std.specs.Prelude.{◌≡◌, ℕ, ◌+◌, ◌<◌, Bool, true, false, List, slice_get, Option, None, Some}
use Rattle.nr_search.specs.Auxiliary.Nearest.{IsFound}
use Rattle.nr_search.specs.Search.{is_hit, nth_on_way}
use Rattle.nr_search.specs.Segments.{from_of, to_of}
use Rattle.nr_search.specs.declared.found.Found.{Found}
use Rattle.nr_search.specs.declared.segments.Span.{Span}
use Rattle.nr_search.specs.declared.slot.Slot.{Slot}
use Rattle.nr_search.specs.declared.slot.Slot.TheVariants.{Unknown, Refused, Searched}

-- true if the result is the nearest hit of the segment
abbrev pub IsFoundIn : Span → (ℕ → List ℕ) → ℕ → Found → Type 0
IsFoundIn span hits s found =
    IsFound span.direction hits (from_of span.after span.every s + 1)
    (to_of span.last span.every s + 1) found

-- true if the slot is correct for the segment: if the slot contains a search result, this is the
-- result of searching the segment
pub record IsTrue (span : Span) (hits : ℕ → List ℕ) (s : ℕ) (slot : Slot) : Type 0 where
  pub found : (found : Found) → slot ≡ Searched found → IsFoundIn span hits s found

-- true if each slot is correct for its segment
pub record AreTrue (span : Span) (hits : ℕ → List ℕ) (known : ℕ → Slot) : Type 0 where
  pub each : (s : ℕ) → IsTrue span hits s (known s)

-- what is known about a segment: `Unknown` if it has no slot
abbrev pub or_unknown : Option Slot → Slot
or_unknown (Some slot) = slot
or_unknown None = Unknown

-- the slot of the segment with this number, or `Unknown` if the list has none
abbrev pub slot_of : List Slot → ℕ → Slot
slot_of slots s = or_unknown (slice_get slots s)

-- true if something is known about the segment
abbrev pub is_known : Slot → Bool
is_known (Searched found) = true
is_known (Refused _) = true
is_known Unknown = false

-- true if the segment was searched
abbrev pub is_searched : Slot → Bool
is_searched (Searched found) = true
is_searched (Refused _) = false
is_searched Unknown = false

-- true if the segment was searched and has a hit
abbrev pub has_hit : Slot → Bool
has_hit (Searched found) = is_hit found
has_hit (Refused _) = false
has_hit Unknown = false

-- true if the result is the known one, or if the segment wasn't searched
abbrev pub Agrees : Slot → Found → Type 0
Agrees (Searched known) found = found ≡ known
Agrees (Refused _) found = Unit {0}
Agrees Unknown found = Unit {0}

-- the segment at index k in search order
abbrev pub nth_of : Span → ℕ → ℕ
nth_of span k = nth_on_way span.direction span.first span.count k

-- True if the answer isn't known yet: a segment in the range wasn't searched, and no nearer segment
-- is known to have a hit.
pub record IsLeftOpen (span : Span) (known : ℕ → Slot) : Type 0 where
  pub place : ℕ
  pub within : place < span.count
  pub unsearched : is_searched (known (nth_of span place)) ≡ false
  pub nearer : (k : ℕ) → k < place → has_hit (known (nth_of span k)) ≡ false
