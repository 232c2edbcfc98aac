-- The model of a table: its goroutines' statuses, and its sockets' semaphores.
use Rattle.std.specs.Prelude.{ℕ, List}
use Rattle.nr_rev.specs.declared.sides.Sides.{Sides}
use Rattle.nr_rev.specs.declared.status.Status.{Status}
use Rattle.nr_rev.specs.Semaphore.{Semaphore}

-- goroutines and semaphores
pub record GoroutineTable : Type 0 where
  -- the status of each goroutine, by number
  pub goroutines : List Status
  -- the semaphores of each socket below the limit, by number
  pub semaphores : List (Sides Semaphore)
  -- the maximum number of goroutines
  pub limit : ℕ
