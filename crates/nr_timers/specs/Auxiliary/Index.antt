-- Helper definitions for `Index`. The laws in THEOREM.md don't use them.
use Rattle.std.specs.Prelude.{◌≡◌, ℕ, zero, suc, ◌+◌, ◌-◌, ◌<◌, ◌≤◌, List, length, slice_index_or, sum_by}
use Rattle.nr_rev.specs.declared.timer.Entry.{Entry}
use Rattle.nr_timers.specs.Order.{at, AllBelow}
use Rattle.nr_timers.specs.Index.{key}

-- 1 if a cell of the index is 0 and so holds no place; otherwise 0
abbrev pub free : ℕ → ℕ
free zero = 1
free (suc p) = 0

-- Each cell of the index belongs to a key. If the entry with that key is at place p, the cell holds
-- p + 1. If no entry has that key, the cell holds 0.
pub record IsIndexed (entries : List Entry) (index : List ℕ) : Type 0 where
  pub below : AllBelow key (length index) entries
  pub found : (p : ℕ) → p < length entries → slice_index_or index (key (at entries p)) 0 ≡ p + 1
  pub within : (k : ℕ) → 0 < slice_index_or index k 0 → slice_index_or index k 0 ≤ length entries
  pub kept : (k : ℕ) → 0 < slice_index_or index k 0
      → key (at entries (slice_index_or index k 0 - 1)) ≡ k
  pub count : length entries + sum_by free index ≡ length index
