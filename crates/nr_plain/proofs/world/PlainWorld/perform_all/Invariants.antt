-- the first changes are made, the remaining changes can be made, and the collected undos restore
-- the old world
use Rattle.std.proofs.Common.{◌≡◌, ◌≤◌, ◌+◌, length}
use Rattle.std.specs.Prelude.{sum_by}
use Rattle.nr_rev.specs.Transaction.{LeadsBack}
use Rattle.nr_plain.specs.Edit.{Undoes, undo_weight}
use Rattle.nr_plain.specs.Plan.{CanEditAll, after_edits, total_weight}
use Rattle.nr_plain.specs.declared.plan.TheConstants.{MOST_EDITS}
use Rattle.nr_plain.proofs.world.PlainWorld.perform_all.Given as goal

abbrev pub invariant-loop-edit : goal.invariant-loop-edit
invariant-loop-edit l = record {
  leads : after_edits l.edits.items l.self ≡ after_edits l.fn.edits.items l.fn.self;
  can : CanEditAll l.edits.items l.self;
  back : LeadsBack Undoes l.undos.items l.self l.fn.self;
  light : sum_by undo_weight l.undos.items + total_weight l.edits.items ≤ total_weight l.fn.edits.items;
  few : length l.undos.items + length l.edits.items ≤ MOST_EDITS;
}

abbrev pub decreases-loop-edit : goal.decreases-loop-edit
decreases-loop-edit l = length l.edits.items
