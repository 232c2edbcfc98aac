-- The index, which has the place of the entry of each descriptor's side.
use Rattle.std.specs.Prelude.{◌≢◌, ℕ, ◌+◌, ◌*◌, ◌<◌, List, length}
use Rattle.nr_rev.specs.declared.sides.Side.{Side}
use Rattle.nr_rev.specs.declared.sides.Side.TheVariants.{Read, Write}
use Rattle.nr_rev.specs.declared.timer.Entry.{Entry}
use Rattle.nr_timers.specs.Order.{at, AllBelow, Apart}

-- the key of a descriptor's side: the number of its cell in the index
abbrev pub key_of : ℕ → Side → ℕ
key_of descriptor Read = 2 * descriptor
key_of descriptor Write = 2 * descriptor + 1

-- the key of an entry: the number of its cell in the index
unfoldable pub key : Entry → ℕ
key e = key_of e.descriptor e.side

-- true if no entry has the key
abbrev pub Absent : ℕ → List Entry → Type 0
Absent k entries = (p : ℕ) → p < length entries → key (at entries p) ≢ k

-- true if the entries have distinct keys below the limit
pub record Keyed (entries : List Entry) (limit : ℕ) : Type 0 where
  pub below : AllBelow key limit entries
  pub once : Apart key entries
