-- When reads were made.
use Rattle.std.specs.Prelude.{ℕ, Bool, List}

-- What had been received and sent when a read was made, and whether the read before it found the
-- end.
pub record Moment : Type 0 where
  pub received : List ℕ
  pub sent : List ℕ
  pub ended : Bool
