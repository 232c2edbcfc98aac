-- Helper definitions for `Sock`. The laws in THEOREM.md don't use them.
use Rattle.std.specs.Prelude.{ℕ, Bool, true, false, List, [], Option, Some, None}
use Rattle.nr_rev.specs.declared.sides.Side.{Side}
use Rattle.nr_rev.specs.Sides.{of_side, with_side}
use Rattle.nr_rev.specs.Socket.{Buffer}
use Rattle.nr_sockbuf.specs.Sock.{OpenSock, SockParts}

-- a buffer in a block with room for the maximum number of bytes
pub record PipeParts : Type 0 where
  pub bytes : List ℕ
  pub capacity : ℕ
  pub most : ℕ

-- the buffer that models a pipe
abbrev pub buffer_of : PipeParts → Buffer
buffer_of pipe = record { bytes = pipe.bytes; capacity = pipe.capacity }

-- the open socket that models two pipes
abbrev pub open_of : PipeParts → PipeParts → Bool → Bool → OpenSock
open_of input output peer_closed shut =
    record {
      buffers = record { read = buffer_of input; write = buffer_of output };
      peer_closed = peer_closed;
      shut = shut;
    }

-- the socket if it is open
abbrev pub opened_when : Bool → OpenSock → Option OpenSock
opened_when true opened = Some opened
opened_when false opened = None

-- the bytes of a side
abbrev pub bytes_of : Side → OpenSock → List ℕ
bytes_of side opened = (of_side side opened.buffers).bytes

-- the same socket with new bytes on a side
abbrev pub with_bytes : Side → List ℕ → OpenSock → OpenSock
with_bytes side bytes opened =
    record opened {
      buffers = with_side side (record (of_side side opened.buffers) { bytes = bytes })
          opened.buffers;
    }

-- the same socket, open with these contents
abbrev pub with_opened : OpenSock → SockParts → SockParts
with_opened opened sock = record sock { opened = Some opened }

-- the bytes of a side, or none before the socket is opened
abbrev pub viewed_bytes : Side → Option OpenSock → List ℕ
viewed_bytes side None = []
viewed_bytes side (Some opened) = bytes_of side opened

-- true if the socket is open and its peer has closed
abbrev pub is_peer_closed : Option OpenSock → Bool
is_peer_closed None = false
is_peer_closed (Some opened) = opened.peer_closed

-- true if the socket is open and its write side is shut
abbrev pub is_shut : Option OpenSock → Bool
is_shut None = false
is_shut (Some opened) = opened.shut
