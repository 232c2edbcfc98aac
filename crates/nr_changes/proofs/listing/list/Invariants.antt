use Rattle.std.proofs.Common.{◌≡◌, ◌≤◌, ◌+◌, ◌++◌, length, take}
use Rattle.std.specs.Prelude.{filter}
use Rattle.nr_rev.specs.Aspect.{can_change}
use Rattle.nr_changes.proofs.listing.list.Given as goal

abbrev pub invariant-loop-cell : goal.invariant-loop-cell
invariant-loop-cell l =
    record {
      items : l.cells ≡ l.fn.cells ++ filter (can_change l.kind) (take l.cell-index l.more);
      few : length l.cells ≤ length l.fn.cells + l.cell-index;
    }
