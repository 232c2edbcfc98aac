-- The models of a socket and of a world's sockets.
use Rattle.std.specs.Prelude.{ℕ, List}
use Rattle.nr_rev.specs.Socket.{Socket}

-- a socket with the capacities of its queues and of its buffers
pub record RoomedSocket : Type 0 where
  pub socket : Socket
  pub queue_room : ℕ
  pub byte_room : ℕ

-- the open sockets, the maximum number of sockets, and the room of each socket's queues and buffers
pub record SocketTable : Type 0 where
  pub sockets : List Socket
  pub room : ℕ
  pub queue_room : ℕ
  pub byte_room : ℕ
