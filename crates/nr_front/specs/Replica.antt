-- The state of a replica's walker.
use Rattle.std.specs.Prelude.{ℕ}

-- The abstract value of a walker: its position, how many deltas it keeps, how many it keeps at
-- most, and the number of steps between two copies in its film.
pub record WalkerState : Type 0 where
  pub position : ℕ
  pub kept : ℕ
  pub depth : ℕ
  pub every : ℕ
