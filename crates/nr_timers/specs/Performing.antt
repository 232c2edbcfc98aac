-- The results of operations that were performed or refused.
use Rattle.std.specs.Prelude.{◌≡◌, ◌≤◌, Some, Result, Ok, Err}
use Rattle.nr_rev.specs.declared.refusal.Refusal.{Refusal}
use Rattle.nr_timers.specs.declared.delta.TimersUndo.{TimersUndo}
use Rattle.nr_timers.specs.declared.op.TimersOp.{TimersOp}
use Rattle.nr_timers.specs.State.{State, IsTimers}
use Rattle.nr_timers.specs.Step.{Makes}
use Rattle.nr_timers.specs.Auxiliary.Step.{timers_reason}
use Rattle.nr_timers.specs.Back.{UndoBack, undo_weight, op_allowance}

-- true if the operation was performed and the timers are still well formed, and the undo restores
-- the old timers and isn't too large
pub record Applies (old : State) (op : TimersOp) (delta : TimersUndo) (new : State) : Type 0 where
  pub made : Makes old op new
  pub well_formed : IsTimers new
  pub back : UndoBack delta new old
  pub light : undo_weight delta ≤ op_allowance op

-- True if the operation was performed, or if it was refused and changed nothing. The refusal is
-- then the reason why the operation doesn't apply in the old state.
abbrev pub Performs : State → TimersOp → Result TimersUndo Refusal → State → Type 0
Performs old op (Ok delta) new = Applies old op delta new
Performs old op (Err refusal) new = (timers_reason old op ≡ Some refusal) × (new ≡ old)
