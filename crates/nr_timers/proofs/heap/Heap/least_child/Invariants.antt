use Rattle.std.proofs.Common.{◌≡◌, ◌+◌, ◌*◌, ◌<◌, ◌≤◌, ℕ, false, length}
use Rattle.nr_timers.specs.Order.{is_less, at}
use Rattle.nr_timers.proofs.heap.Heap.least_child.Given as goal

-- the least of the children seen so far
abbrev pub invariant-loop-i : goal.invariant-loop-i
invariant-loop-i l =
    record {
      from : 4 * l.place + 1 ≤ l.least;
      to : l.least < l.i;
      within : l.i ≤ length l.self.entries;
      near : l.i ≤ 4 * l.place + 5;
      least : (i : ℕ) → 4 * l.place + 1 ≤ i → i < l.i → is_less (at l.self.entries i) (at l.self.entries l.least) ≡ false;
    }
