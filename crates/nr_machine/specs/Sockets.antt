-- The sockets that locks, semaphores and buffers represent.
use Rattle.std.specs.Prelude.{ℕ, List, slice_index_or, Option, Some, None}
use Rattle.nr_rev.specs.declared.lock.Lock.{Lock}
use Rattle.nr_rev.specs.declared.sides.Sides.{Sides}
use Rattle.nr_rev.specs.Semaphore.{Semaphore, new_semaphore}
use Rattle.nr_rev.specs.Sides.{twice}
use Rattle.nr_rev.specs.Socket.{Socket}
use Rattle.nr_sockbuf.specs.Sock.{OpenSock, SockParts, never_opened, new_opened}
use Rattle.nr_machine.specs.Numbered.{numbered}

-- the parts of a socket other than its lock
pub record SocketRest : Type 0 where
  pub semaphores : Sides Semaphore
  pub sock : Option OpenSock

-- the buffers, or empty ones if none are open
abbrev pub buffers_in : Option OpenSock → OpenSock
buffers_in (Some opened) = opened
buffers_in None = new_opened 0 0

-- a socket from its lock and its other parts
abbrev pub socket_of : Lock → SocketRest → Socket
socket_of lock rest =
    record {
      lock = lock;
      semaphores = rest.semaphores;
      buffers = (buffers_in rest.sock).buffers;
      peer_closed = (buffers_in rest.sock).peer_closed;
      shut = (buffers_in rest.sock).shut;
    }

-- the parts of socket s other than its lock; missing semaphores are new, and missing buffers are
-- closed
abbrev pub rest_at : List (Sides Semaphore) → List SockParts → ℕ → SocketRest
rest_at semaphores socks s =
    record {
      semaphores = slice_index_or semaphores s (twice new_semaphore);
      sock = (slice_index_or socks s (never_opened 0)).opened;
    }

-- the socket for each lock
abbrev pub sockets_of : List Lock → List (Sides Semaphore) → List SockParts → List Socket
sockets_of locks semaphores socks = numbered socket_of 0 locks (rest_at semaphores socks)
