use Rattle.std.proofs.Common.{◌≡◌, ◌≤◌, ◌+◌, ◌++◌, length, take}
use Rattle.nr_programs.specs.Auxiliary.Changes.{as_lines}
use Rattle.nr_programs.proofs.changes.add_lines.Given as goal

abbrev pub invariant-loop-change : goal.invariant-loop-change
invariant-loop-change l =
    record {
      items : l.lines.items ≡ l.fn.lines.items ++ as_lines l.step (take l.change-index l.changes);
      few : length l.lines.items ≤ length l.fn.lines.items + l.change-index;
    }
