-- Small tables for worked examples.
use Rattle.std.specs.Prelude.{ℕ, [], ◌∷◌}
use Rattle.nr_rev.specs.declared.status.Status.{Status}
use Rattle.nr_rev.specs.Semaphore.{new_semaphore}
use Rattle.nr_gsema.specs.Table.{GoroutineTable}

-- one goroutine, and one socket whose read semaphore has this count
abbrev pub one_at : ℕ → Status → GoroutineTable
one_at count status =
    record {
      goroutines = status ∷ [];
      semaphores =
          record { read = record { count = count; queue = [] }; write = new_semaphore } ∷ [];
      limit = 1;
    }
