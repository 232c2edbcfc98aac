-- The states of a replay.
use Rattle.std.specs.Prelude.{◌≡◌, ℕ, zero, suc, Some, slice_get}
use Rattle.nr_rev.specs.Run.{Recording}
use Rattle.nr_rev.specs.declared.answer.Answer.{Answer}
use Rattle.nr_rev.specs.declared.step.Step.{Step}

-- true if the step after position n turns the old state into the new one
pub record LeadsOn {State : Type 0} (steps : State → Step → Answer → State → Type 0) (r : Recording)
    (n : ℕ) (old new : State) : Type 0 where
  pub step : Step
  pub next : slice_get r.steps n ≡ Some step
  pub answer : Answer
  pub leads : steps old step answer new

-- true if applying the first n steps of the recording turns the origin into the state
abbrev pub Replays : {State : Type 0} → (State → Step → Answer → State → Type 0) → Recording → State
    → ℕ → State → Type 0
Replays steps r origin zero state = state ≡ origin
Replays {State} steps r origin (suc n) state =
    (before : State) × Replays steps r origin n before × LeadsOn steps r n before state
