-- The model of a socket over lists: its state of fixed size, its queued goroutines and its bytes.
use Rattle.std.specs.Prelude.{◌≡◌, ℕ, List}
use Rattle.nr_rev.specs.declared.sides.Sides.{Sides}
use Rattle.nr_rev.specs.Socket.{Socket}
use Rattle.nr_plain.specs.declared.socket.PlainSocket.TheInside.{Inside}
use Rattle.nr_plain.specs.declared.socket.SocketState.{SocketState}
use Rattle.nr_plain.specs.SocketTable.{RoomedSocket}

-- the socket of this state, with these queues and these bytes
abbrev pub socket_with : SocketState → Sides (List ℕ) → Sides (List ℕ) → Socket
socket_with state queues bytes =
    record {
      lock = state.lock;
      semaphores = record {
        read = record { count = state.counts.read; queue = queues.read };
        write = record { count = state.counts.write; queue = queues.write };
      };
      buffers = record {
        read = record { bytes = bytes.read; capacity = state.capacities.read };
        write = record { bytes = bytes.write; capacity = state.capacities.write };
      };
      peer_closed = state.peer_closed;
      shut = state.shut;
    }

-- the state of a socket without its queues and its bytes
abbrev pub state_of : Socket → SocketState
state_of socket =
    record {
      lock = socket.lock;
      counts = record {
        read = socket.semaphores.read.count;
        write = socket.semaphores.write.count;
      };
      capacities = record {
        read = socket.buffers.read.capacity;
        write = socket.buffers.write.capacity;
      };
      peer_closed = socket.peer_closed;
      shut = socket.shut;
    }

-- the socket that contracts see
abbrev pub socket_view : Inside → RoomedSocket
socket_view p =
    record {
      socket = socket_with p.state
          (record { read = p.read_queue.items; write = p.write_queue.items })
          (record { read = p.input.items; write = p.output.items });
      queue_room = p.read_queue.room;
      byte_room = p.input.room;
    }

-- true if both queues have the same room, and both buffers have the same room
pub record HasItsRoom (p : Inside) : Type 0 where
  pub queues : p.write_queue.room ≡ p.read_queue.room
  pub buffers : p.output.room ≡ p.input.room
