use Rattle.std.proofs.Common.{length}
use Rattle.nr_rev.specs.Transaction.{LeadsBack}
use Rattle.nr_rev.proofs.transaction.undo_all.Given as goal

-- if undoing all the deltas restores a state, then undoing the remaining deltas, from the current
-- state, restores it too
abbrev pub invariant-loop-delta : goal.invariant-loop-delta
invariant-loop-delta g l =
    let back = g.S.Reversible.back in
    (old : g.row.S.Denot) → LeadsBack back l.fn.deltas.items l.fn.state old → LeadsBack back l.deltas.items l.state old

abbrev pub decreases-loop-delta : goal.decreases-loop-delta
decreases-loop-delta g l = length l.deltas.items
