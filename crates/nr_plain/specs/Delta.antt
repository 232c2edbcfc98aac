-- The undo of a step, which consists of the undos of its changes.
use Rattle.std.specs.Prelude.{ℕ, sum_by}
use Rattle.nr_rev.specs.World.{World}
use Rattle.nr_rev.specs.Transaction.{LeadsBack}
use Rattle.nr_plain.specs.declared.delta.PlainDelta.{PlainDelta}
use Rattle.nr_plain.specs.Edit.{Undoes, undo_weight}

-- true if applying the undos, from the last to the first, turns the new world into the old one
abbrev pub PlainBack : PlainDelta → World → World → Type 0
PlainBack delta new old = LeadsBack Undoes delta.undos.items new old

-- the number of words in a delta
abbrev pub delta_weight : PlainDelta → ℕ
delta_weight delta = sum_by undo_weight delta.undos.items
