-- applying the remaining undos restores the old world
use Rattle.std.proofs.Common.{length}
use Rattle.nr_rev.specs.Transaction.{LeadsBack}
use Rattle.nr_rev.specs.World.{World}
use Rattle.nr_plain.specs.Edit.{Undoes}
use Rattle.nr_plain.proofs.apply.PlainWorldReversible.undo.Given as goal

abbrev pub invariant-loop-undo : goal.invariant-loop-undo
invariant-loop-undo l =
    (old : World) → LeadsBack Undoes l.fn.delta.undos.items l.fn.self old → LeadsBack Undoes l.undos.items l.self old

abbrev pub decreases-loop-undo : goal.decreases-loop-undo
decreases-loop-undo l = length l.undos.items
