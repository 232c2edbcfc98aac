-- Helper definitions for `Applying`. The laws in THEOREM.md don't use them.
use Rattle.std.specs.Prelude.{◌≡◌, ◌≤◌, Result, Ok, Err}
use Rattle.nr_rev.specs.declared.answer.Answer.{Answer}
use Rattle.nr_rev.specs.declared.refusal.Refusal.{Refusal}
use Rattle.nr_gsema.specs.declared.operation.GOperation.{GOperation}
use Rattle.nr_gsema.specs.declared.delta.GUndo.{GUndo}
use Rattle.nr_gsema.specs.Delta.{Reverses, undo_weight, weight_allowed}
use Rattle.nr_gsema.specs.Step.{outcome}
use Rattle.nr_gsema.specs.Table.{GoroutineTable}

-- true if the operation applies with this answer, and its undo restores the old table and has no
-- more words than allowed
pub record AppliesBy (op : GOperation) (old : GoroutineTable) (answer : Answer) (undo : GUndo)
    (new : GoroutineTable) : Type 0 where
  pub step : outcome old op ≡ Ok (answer, new)
  pub back : Reverses undo new old
  pub light : undo_weight undo ≤ weight_allowed op

-- true if the operation applies, or is refused and changes nothing
abbrev pub Applies : GOperation → GoroutineTable → Result (Answer × GUndo) Refusal
    → GoroutineTable → Type 0
Applies op old (Ok (answer, undo)) new = AppliesBy op old answer undo new
Applies op old (Err reason) new = (outcome old op ≡ Err reason) × (new ≡ old)
