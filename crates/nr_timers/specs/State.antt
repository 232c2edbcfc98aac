-- The model of timers, for contracts, and its invariant.
use Rattle.std.specs.Prelude.{◌≢◌, ℕ, ◌*◌, ◌^◌, ◌<◌, ◌≤◌, List, length}
use Rattle.nr_rev.specs.declared.timer.Entry.{Entry}
use Rattle.nr_timers.specs.Order.{at, number, AllBelow, Apart}
use Rattle.nr_timers.specs.PathToRoot.{Ordered}
use Rattle.nr_timers.specs.Index.{Keyed}

-- the entries by place, the firings in order, the next arming number, and the limit of descriptors
pub record State : Type 0 where
  pub entries : List Entry
  pub firings : List Entry
  pub next : ℕ
  pub descriptors : ℕ

-- true if the arming numbers of entries and firings are distinct and below the next one
pub record Numbered (next : ℕ) (entries firings : List Entry) : Type 0 where
  pub entries_below : AllBelow number next entries
  pub firings_below : AllBelow number next firings
  pub entries_once : Apart number entries
  pub firings_once : Apart number firings
  pub apart : (p q : ℕ) → p < length entries → q < length firings
      → number (at entries p) ≢ number (at firings q)

-- True if the timers are well formed. The heap is ordered. Each descriptor's side has at most one
-- entry. The descriptor of each entry is below the limit. There are at most two firings per
-- descriptor. The next arming number fits in 64 bits and isn't 0.
pub record IsTimers (t : State) : Type 0 where
  pub ordered : Ordered t.entries
  pub keyed : Keyed t.entries (2 * t.descriptors)
  pub numbered : Numbered t.next t.entries t.firings
  pub firings_limited : length t.firings ≤ 2 * t.descriptors
  pub begun : 0 < t.next
  pub in_range : t.next < 2 ^ 64
