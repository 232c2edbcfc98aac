-- the number of armed timers in the rows from row d on
use Rattle.std.proofs.Common.{◌≡◌, ◌≤◌, ◌*◌, ◌-◌, length, map, drop}
use Rattle.nr_rev.specs.Timer.{entries_from}
use Rattle.nr_plain.proofs.cells.armed_in.Given as goal

abbrev pub invariant-loop-d : goal.invariant-loop-d
invariant-loop-d l = record {
  within : l.d ≤ length l.rows;
  armed : l.armed ≡ length (entries_from l.d (map (λ row. row.timers) (drop l.d l.rows)));
  few : l.armed ≤ 2 * (length l.rows - l.d);
}

abbrev pub decreases-loop-d : goal.decreases-loop-d
decreases-loop-d l = l.d
