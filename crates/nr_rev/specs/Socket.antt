-- A socket: its lock, its semaphores and its buffers.
use Rattle.std.specs.Prelude.{ℕ, ◌-◌, Bool, false, if◌then◌else◌, List, [], length}
use Rattle.nr_rev.specs.declared.sides.Sides.{Sides}
use Rattle.nr_rev.specs.Sides.{twice}
use Rattle.nr_rev.specs.declared.lock.Lock.{Lock}
use Rattle.nr_rev.specs.Lock.{open_lock}
use Rattle.nr_rev.specs.Semaphore.{Semaphore, new_semaphore}

-- the bytes in a buffer, the oldest first, and the buffer's capacity
pub record Buffer : Type 0 where
  pub bytes : List ℕ
  pub capacity : ℕ

-- the number of bytes that a buffer can still take
abbrev pub room_of : Buffer → ℕ
room_of buffer = buffer.capacity - length buffer.bytes

-- the number of bytes that an output can still take: none once the write side is shut
abbrev pub output_room : Bool → Buffer → ℕ
output_room shut output = if shut then 0 else room_of output

-- the lock word, the semaphores, the buffers, whether the peer has closed, and whether the write
-- side is shut
pub record Socket : Type 0 where
  pub lock : Lock
  pub semaphores : Sides Semaphore
  -- the input for reading, the output for writing
  pub buffers : Sides Buffer
  pub peer_closed : Bool
  pub shut : Bool

-- a newly opened socket, with these capacities for reading and writing
abbrev pub new_socket : ℕ → ℕ → Socket
new_socket read_capacity write_capacity =
    record {
      lock = open_lock;
      semaphores = twice new_semaphore;
      buffers = record {
        read = record { bytes = []; capacity = read_capacity };
        write = record { bytes = []; capacity = write_capacity };
      };
      peer_closed = false;
      shut = false;
    }
