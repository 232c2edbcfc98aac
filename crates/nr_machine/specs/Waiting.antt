-- The outcome of an operation that a goroutine inside a wait applies to the wait word.
use Rattle.std.specs.Prelude.{ℕ, ◌+◌, Bool, true, false, Ok}
use Rattle.nr_rev.specs.declared.answer.Answer.{Answer}
use Rattle.nr_rev.specs.declared.status.Status.{Status}
use Rattle.nr_rev.specs.declared.status.Status.TheVariants.{Idle, Armed, Parked, Swapping, Checking}
use Rattle.nr_rev.specs.Refusing.{◌>>=◌}
use Rattle.nr_rev.specs.Step.{Outcome, row_of}
use Rattle.nr_rev.specs.World.{World, with_descriptor, with_status}
use Rattle.nr_desc.specs.Op as desc
use Rattle.nr_desc.specs.declared.op.DescOp.{DescOp}
use Rattle.nr_desc.specs.declared.op.DescOp.TheVariants as op
use Rattle.nr_machine.specs.declared.world_core.Core.{Core}

-- the status of a goroutine after it applies an operation to a wait word and gets this answer
abbrev pub status_after : ℕ → DescOp → Answer → Status
status_after d (op.Arm side) Answer.Wait = Armed d side
status_after d (op.Commit side g) Answer.Yes = Parked d side
status_after d (op.Commit side g) _ = Swapping d side
status_after d (op.Swap side) Answer.No = Checking d side
status_after d _ _ = Idle

-- true if the goroutine is parked after an operation with this answer
abbrev pub parks : DescOp → Answer → Bool
parks (op.Commit side g) Answer.Yes = true
parks _ _ = false

-- the world with one more waiter if a goroutine parked
abbrev pub with_parked : Bool → World → World
with_parked true w = record w { waiters = w.waiters + 1 }
with_parked false w = w

-- the core with one more waiter if a goroutine parked
abbrev pub core_parked : Bool → Core → Core
core_parked true core = record core { waiters = core.waiters + 1 }
core_parked false core = core

-- the outcome of an operation by goroutine g inside a wait for descriptor d
abbrev pub waiting : ℕ → ℕ → DescOp → World → Outcome
waiting g d op w = do
  row ← row_of d w
  made ← desc.outcome row.descriptor op
  Ok (
    made.0,
    with_parked (parks op made.0) (with_status g (status_after d op made.0)
        (with_descriptor d row made.1.descriptor w)),
  )
