-- Steps as operations on the goroutine table, which contains goroutines and semaphores.
use Rattle.std.specs.Prelude.{Err}
use Rattle.nr_rev.specs.declared.refusal.Refusal.TheVariants.{NotThere}
use Rattle.nr_rev.specs.Step.{Outcome, acquire, exit, release, spawn}
use Rattle.nr_rev.specs.World.{World}
use Rattle.nr_gsema.specs.declared.operation.GOperation.{GOperation}
use Rattle.nr_gsema.specs.declared.operation.GOperation.TheVariants as op

-- true if the operation is a step
abbrev pub IsStep : GOperation → Type 0
IsStep (op.Move g from to) = ⊥
IsStep _ = Unit {0}

-- the outcome of the step that the operation makes
abbrev pub goroutine_outcome : GOperation → World → Outcome
goroutine_outcome op.Spawn w = spawn w
goroutine_outcome (op.Exit g) w = exit g w
goroutine_outcome (op.Acquire g) w = acquire g w
goroutine_outcome (op.Release g) w = release g w
goroutine_outcome (op.Move g from to) w = Err NotThere
