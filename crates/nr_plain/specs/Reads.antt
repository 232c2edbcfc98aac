-- The status of a goroutine whose step continues an operation.
use Rattle.std.specs.Prelude.{ℕ, Result}
use Rattle.nr_rev.specs.declared.refusal.Refusal.{Refusal}
use Rattle.nr_rev.specs.declared.sides.Side.{Side}
use Rattle.nr_rev.specs.Refusing.{◌>>=◌}
use Rattle.nr_rev.specs.Step.{acquiring_of, status_of}
use Rattle.nr_rev.specs.World.{World}

-- the socket and the side whose semaphore a goroutine acquires
abbrev pub acquiring_by : ℕ → World → Result (ℕ × Side) Refusal
acquiring_by g w = do
  status ← status_of g w
  acquiring_of status
