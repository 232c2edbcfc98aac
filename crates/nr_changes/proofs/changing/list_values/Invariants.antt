use Rattle.std.proofs.Common.{◌≡◌, take}
use Rattle.std.specs.Prelude.{map}
use Rattle.nr_changes.specs.Changes.{with_value}
use Rattle.nr_changes.proofs.changing.list_values.Given as goal

abbrev pub invariant-loop-cell : goal.invariant-loop-cell
invariant-loop-cell g l = l.values.items ≡ map (with_value (g.W.Worlds.world l.world)) (take l.cell-index l.cells)
