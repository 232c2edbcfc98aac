-- The packed world before the first step.
use Rattle.std.specs.Prelude.{pos, [], ◌∷◌, replicate}
use Rattle.nr_rev.specs.declared.limits.Limits.{Limits}
use Rattle.nr_rev.specs.declared.status.Status.TheVariants.{Idle}
use Rattle.nr_rev.specs.Semaphore.{new_semaphore}
use Rattle.nr_rev.specs.Sides.{twice}
use Rattle.nr_sockbuf.specs.Sock.{never_opened}
use Rattle.nr_machine.specs.declared.world_core.Core.{Core}
use Rattle.nr_machine.specs.World.{WorldParts}

-- the core before the first step: goroutine 0 is idle, and nothing else exists
abbrev pub empty_core : Limits → Core
empty_core limits =
    record {
      limits = limits;
      goroutines = record {
        goroutines = Idle ∷ [];
        semaphores = replicate limits.sockets (twice new_semaphore);
        limit = limits.goroutines;
      };
      locks = record { items = []; room = limits.sockets };
      descriptors = record { items = []; room = limits.descriptors };
      free = record { items = []; room = limits.descriptors };
      timers = record { entries = []; firings = []; next = 1; descriptors = limits.descriptors };
      clock = pos 0;
      waiters = 0;
    }

-- the whole world before the first step: the core, and closed buffers for each socket
abbrev pub empty_parts : Limits → WorldParts
empty_parts limits =
    record {
      core = empty_core limits;
      socks = replicate limits.sockets (never_opened limits.buffer);
    }
