-- A packed world, and the world that it represents.
use Rattle.std.specs.Prelude.{List}
use Rattle.nr_rev.specs.World.{World}
use Rattle.nr_sockbuf.specs.Sock.{SockParts}
use Rattle.nr_machine.specs.declared.world_core.Core.{Core}
use Rattle.nr_machine.specs.Rows.{rows_of}
use Rattle.nr_machine.specs.Sockets.{sockets_of}

-- the core, and the buffers of all sockets below the limit
pub record WorldParts : Type 0 where
  pub core : Core
  pub socks : List SockParts

-- the world that these parts represent
abbrev pub meant : WorldParts → World
meant m =
    record {
      limits = m.core.limits;
      goroutines = m.core.goroutines.goroutines;
      sockets = sockets_of m.core.locks.items m.core.goroutines.semaphores m.socks;
      descriptors = rows_of m.core.descriptors.items m.core.timers.entries;
      firings = m.core.timers.firings;
      free = m.core.free.items;
      clock = m.core.clock;
      waiters = m.core.waiters;
      next_arming = m.core.timers.next;
    }
