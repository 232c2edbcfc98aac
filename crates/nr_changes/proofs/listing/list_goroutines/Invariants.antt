use Rattle.std.proofs.Common.{◌≡◌, ◌≤◌, ◌+◌, ◌++◌, length, take}
use Rattle.std.specs.Prelude.{filter}
use Rattle.nr_rev.specs.Aspect.{can_change}
use Rattle.nr_changes.specs.Changed.{goroutine_cells}
use Rattle.nr_changes.proofs.listing.list_goroutines.Given as goal

abbrev pub invariant-loop-goroutine : goal.invariant-loop-goroutine
invariant-loop-goroutine l =
    record {
      items : l.cells ≡ l.fn.cells ++ filter (can_change l.kind) (goroutine_cells (take l.goroutine-index l.goroutines));
      few : length l.cells ≤ length l.fn.cells + l.goroutine-index;
    }
