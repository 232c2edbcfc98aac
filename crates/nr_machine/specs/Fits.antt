-- How the parts of a packed world fit together: the invariant in addition to well-formedness.
use Rattle.std.specs.Prelude.{◌≡◌, ℕ, ◌<◌, ◌≤◌, true, length, slice_get, Some, None}
use Rattle.nr_rev.specs.declared.descriptor.Descriptor.{Descriptor}
use Rattle.nr_rev.specs.declared.lock.Lock.{Lock}
use Rattle.nr_rev.specs.declared.sides.Sides.{Sides}
use Rattle.nr_rev.specs.Limits.{AreInRange}
use Rattle.nr_rev.specs.Semaphore.{Semaphore, new_semaphore}
use Rattle.nr_rev.specs.Sides.{twice}
use Rattle.nr_rev.specs.WellFormed.{LockFits, WellFormed}
use Rattle.nr_desc.specs.Desc.{DescFits}
use Rattle.nr_gsema.specs.Applying.{IsQueuedUp}
use Rattle.nr_sockbuf.specs.Sock.{SockParts, is_opened}
use Rattle.nr_timers.specs.State.{IsTimers}
use Rattle.nr_timers.specs.TimersOf.{timers_of}
use Rattle.nr_machine.specs.declared.world_core.Core.{Core}
use Rattle.nr_machine.specs.World.{WorldParts, meant}

-- true if each part of the core is well formed and has the capacity that the limits specify
pub record CoreFits (core : Core) : Type 0 where
  pub in_range : AreInRange core.limits
  pub queued : IsQueuedUp core.goroutines
  pub goroutines : core.goroutines.limit ≡ core.limits.goroutines
  pub semaphores : length core.goroutines.semaphores ≡ core.limits.sockets
  pub locks : (s : ℕ) (lock : Lock) → slice_get core.locks.items s ≡ Some lock → LockFits lock
  pub locks_room : core.locks.room ≡ core.limits.sockets
  pub descriptors : (d : ℕ) (x : Descriptor) → slice_get core.descriptors.items d ≡ Some x
      → DescFits x
  pub descriptors_room : core.descriptors.room ≡ core.limits.descriptors
  pub free_room : core.free.room ≡ core.limits.descriptors
  pub timers : IsTimers core.timers
  pub timers_room : core.timers.descriptors ≡ core.limits.descriptors

-- true if the buffers of socket s have the recording's limit, and are open if and only if the
-- socket has a lock
pub record SockFits (core : Core) (s : ℕ) (sock : SockParts) : Type 0 where
  pub limit : sock.limit ≡ core.limits.buffer
  pub opened : s < length core.locks.items → is_opened sock.opened ≡ true
  pub closed : length core.locks.items ≤ s → sock.opened ≡ None

-- true if the parts fit together, and those that belong to no opened socket or descriptor are
-- unused
pub record PartsFit (m : WorldParts) : Type 0 where
  pub core : CoreFits m.core
  pub socks_made : length m.socks ≡ m.core.limits.sockets
  pub socks : (s : ℕ) (sock : SockParts) → slice_get m.socks s ≡ Some sock
      → SockFits m.core s sock
  pub unopened : (s : ℕ) (both : Sides Semaphore)
      → slice_get m.core.goroutines.semaphores s ≡ Some both
      → length m.core.locks.items ≤ s → both ≡ twice new_semaphore
  pub unarmed : (d : ℕ) → length m.core.descriptors.items ≤ d
      → timers_of m.core.timers.entries d ≡ twice None

-- a packed world, which represents a well-formed one, and whose parts fit together
pub record IsWorld (m : WorldParts) : Type 0 where
  pub meaning : WellFormed (meant m)
  pub parts : PartsFit m
