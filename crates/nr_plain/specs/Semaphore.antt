-- The model of a semaphore.
use Rattle.nr_rev.specs.Semaphore.{Semaphore}
use Rattle.nr_plain.specs.declared.semaphore.PlainSemaphore.{PlainSemaphore}

-- the semaphore with this count and this queue
abbrev pub semaphore_view : PlainSemaphore → Semaphore
semaphore_view p = record { count = p.count; queue = p.queue.now }
