-- the least entry of the rows from row d on
use Rattle.std.proofs.Common.{◌≡◌, ◌≤◌, length, map, drop}
use Rattle.nr_rev.specs.Timer.{entries_from, least_of}
use Rattle.nr_plain.proofs.timers.least_of_rows.Given as goal

abbrev pub invariant-loop-d : goal.invariant-loop-d
invariant-loop-d l = record {
  within : l.d ≤ length l.rows;
  least : l.least ≡ least_of (entries_from l.d (map (λ row. row.timers) (drop l.d l.rows)));
}

abbrev pub decreases-loop-d : goal.decreases-loop-d
decreases-loop-d l = l.d
