-- Helper definitions for `Run`. The laws in THEOREM.md don't use them.
use Rattle.std.specs.Prelude.{◌≡◌, ℕ, slice_get, Some, Err, IsOk}
use Rattle.nr_rev.specs.declared.refusal.Refusal.{Refusal}
use Rattle.nr_rev.specs.declared.step.Step.{Step}
use Rattle.nr_rev.specs.World.{World}
use Rattle.nr_rev.specs.Step.{outcome}
use Rattle.nr_rev.specs.Worlds.{LosesBytes}
use Rattle.nr_rev.specs.Run.{Recording, world_at}

-- true if the state is well formed and represents the world at position n
pub record IsWorldAt {State : Type 0} (is_well_formed : State → Type 0) (world : State → World)
    (r : Recording) (n : ℕ) (state : State) : Type 0 where
  pub well_formed : is_well_formed state
  pub there : world state ≡ world_at r n

-- true if the step after position n applies there
pub record AppliesAt (r : Recording) (n : ℕ) : Type 0 where
  pub step : Step
  pub next : slice_get r.steps n ≡ Some step
  pub applies : IsOk (outcome (world_at r n) step)

-- true if bytes leave a buffer at the step after position n; an undo needs memory for them
pub record LosesBytesAt (r : Recording) (n : ℕ) : Type 0 where
  pub step : Step
  pub next : slice_get r.steps n ≡ Some step
  pub loses : LosesBytes (world_at r n) step

-- true if the step after position n does not apply there, for this reason
abbrev pub IsRefusedFor : Recording → ℕ → Refusal → Type 0
IsRefusedFor r n reason =
    (step : Step) × (slice_get r.steps n ≡ Some step) × (outcome (world_at r n) step ≡ Err reason)
