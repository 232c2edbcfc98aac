-- The ledger of references: how many references to each socket each goroutine took and returned.
use Rattle.std.specs.Prelude.{◌≡◌, ◌≢◌, ◌⊎◌, ℕ, zero, suc, ◌+◌, ◌-◌, ◌^◌, ◌<◌, ◌&&◌, ◌==◌, if◌then◌else◌, List, slice_get, Option, Some, option_and_then, option_map}
use Rattle.std.specs.Option.{option_map_or}
use Rattle.nr_rev.specs.Run.{Recording}
use Rattle.nr_suspects.specs.declared.holding.Holding.{Holding}
use Rattle.nr_suspects.specs.declared.notice.Notice.{Notice}
use Rattle.nr_suspects.specs.declared.notice.Notice.TheVariants.{TookReference, GaveReference}
use Rattle.nr_suspects.specs.Notices.{notice_at}

-- the counts of a goroutine that took and returned no references
abbrev pub none_held : Holding
none_held = record { taken = 0; given = 0; since = 0 }

-- the counts after one more reference was taken, in the step with this number
abbrev pub one_taken : ℕ → Holding → Holding
one_taken n h = record h { taken = h.taken + 1; since = n }

-- the counts after one more reference was returned
abbrev pub one_given : Holding → Holding
one_given h = record h { given = h.given + 1 }

-- the counts of goroutine g for socket s after the step with this number
abbrev pub holding_after : ℕ → ℕ → ℕ → Notice → Holding → Holding
holding_after n g s (TookReference h k) held =
    if (g == h) && (s == k) then one_taken n held else held
holding_after n g s (GaveReference h k) held =
    if (g == h) && (s == k) then one_given held else held
holding_after n g s _ held = held

-- How many references to socket s goroutine g took and returned in the first n steps of a
-- recording, and which step took the last of them.
abbrev pub holding : Recording → ℕ → ℕ → ℕ → Holding
holding r g s zero = none_held
holding r g s (suc n) = holding_after (suc n) g s (notice_at r n) (holding r g s n)

-- ---- the ledger

-- the counts of goroutine g for socket s, if the ledger has a place for them
abbrev pub place : List (List Holding) → ℕ → ℕ → Option Holding
place rows s g = option_and_then (λ row. slice_get row g) (slice_get rows s)

-- the counts of goroutine g for socket s, or zero counts if the ledger has no place for them
abbrev pub holding_of : List (List Holding) → ℕ → ℕ → Holding
holding_of rows s g = option_map_or (λ h. h) (place rows s g) none_held

-- the counts of a row can grow by one without overflow
abbrev pub RowCanCount : List Holding → Type 0
RowCanCount row =
    (g : ℕ) (h : Holding) → slice_get row g ≡ Some h
    → (h.taken < 2 ^ 64 - 1) × (h.given < 2 ^ 64 - 1)

-- If the row of socket s has a place for goroutine g, this place was updated with a step. All other
-- places of the row are unchanged.
pub record IsRowHeldAt (n g s : ℕ) (notice : Notice) (old new : List Holding) : Type 0 where
  pub here : slice_get new g ≡ option_map (holding_after n g s notice) (slice_get old g)
  pub elsewhere : (k : ℕ) → k ≢ g → slice_get new k ≡ slice_get old k

-- the counts of all rows can grow by one without overflow
abbrev pub CanCount : List (List Holding) → Type 0
CanCount rows =
    (s g : ℕ) (h : Holding) → place rows s g ≡ Some h
    → (h.taken < 2 ^ 64 - 1) × (h.given < 2 ^ 64 - 1)

-- the place of goroutine g and socket s, if it exists, was updated with a step
pub record IsHeldAt (n g s : ℕ) (notice : Notice) (old new : List (List Holding)) : Type 0 where
  pub here : place new s g ≡ option_map (holding_after n g s notice) (place old s g)
  pub elsewhere : (t k : ℕ) → (t ≢ s) ⊎ (k ≢ g) → place new t k ≡ place old t k

-- each place was updated with the notice of this step
abbrev pub AreHeld : ℕ → Notice → List (List Holding) → List (List Holding) → Type 0
AreHeld n notice old new =
    (s g : ℕ) → place new s g ≡ option_map (holding_after n g s notice) (place old s g)

-- for each socket and goroutine, the ledger has a place with their counts at position n of a
-- recording
pub record AreHoldings (r : Recording) (n : ℕ) (rows : List (List Holding)) : Type 0 where
  pub there : (s g : ℕ) → s < r.limits.sockets → g < r.limits.goroutines
      → place rows s g ≡ Some (holding r g s n)
  pub right : (s g : ℕ) (h : Holding) → place rows s g ≡ Some h → h ≡ holding r g s n
