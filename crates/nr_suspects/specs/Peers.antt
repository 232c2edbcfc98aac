-- The other end of each socket: how many bytes can be written before it reads any, and whether it
-- has closed.
use Rattle.std.specs.Prelude.{◌≡◌, ◌≢◌, ℕ, zero, suc, ◌<◌, ◌==◌, if◌then◌else◌, false, true, List, length, slice_get, Option, Some, None, option_map, option_and_then}
use Rattle.nr_rev.specs.Run.{Recording}
use Rattle.nr_rev.specs.Socket.{Socket}
use Rattle.nr_suspects.specs.declared.notice.Notice.{Notice}
use Rattle.nr_suspects.specs.declared.notice.Notice.TheVariants.{SocketOpened, PeerClosed}
use Rattle.nr_suspects.specs.declared.peer.Peer.{Peer}
use Rattle.nr_suspects.specs.Notices.{notice_at}

-- the other end of a socket that was opened with this much room for writing
abbrev pub open_peer : ℕ → Peer
open_peer capacity = record { capacity = capacity; is_closed = false }

-- the other end after it has closed
abbrev pub closed_peer : Peer → Peer
closed_peer p = record p { is_closed = true }

-- the other end of socket s after a notice
abbrev pub peer_after : ℕ → Notice → Option Peer → Option Peer
peer_after s (SocketOpened k capacity) p = if s == k then Some (open_peer capacity) else p
peer_after s (PeerClosed k) p = if s == k then option_map closed_peer p else p
peer_after s _ p = p

-- the other end of socket s at position n of a recording
abbrev pub peer : Recording → ℕ → ℕ → Option Peer
peer r s zero = None
peer r s (suc n) = peer_after s (notice_at r n) (peer r s n)

-- the other end of a socket in the machine
abbrev pub peer_of : Socket → Peer
peer_of socket = record {
  capacity = socket.buffers.write.capacity;
  is_closed = socket.peer_closed;
}

-- ---- places

-- the entry of socket s, if it has a place
abbrev pub peer_in : List (Option Peer) → ℕ → Option Peer
peer_in peers s = option_and_then (λ p. p) (slice_get peers s)

-- the notice was applied to each place
pub record ArePeersNoted (notice : Notice) (old new : List (Option Peer)) : Type 0 where
  pub places : length new ≡ length old
  pub each : (s : ℕ) (p : Option Peer) → slice_get old s ≡ Some p
      → slice_get new s ≡ Some (peer_after s notice p)

-- the notice was applied to the place of socket s, if it has one, and the other places are
-- unchanged
pub record IsPeerNotedAt (s : ℕ) (notice : Notice) (old new : List (Option Peer)) : Type 0 where
  pub places : length new ≡ length old
  pub here : (p : Option Peer) → slice_get old s ≡ Some p
      → slice_get new s ≡ Some (peer_after s notice p)
  pub elsewhere : (k : ℕ) → k ≢ s → slice_get new k ≡ slice_get old k

-- each place holds the other end of its socket at position n of a recording
pub record ArePeers (r : Recording) (n : ℕ) (peers : List (Option Peer)) : Type 0 where
  pub places : length peers ≡ r.limits.sockets
  pub each : (s : ℕ) → s < r.limits.sockets → slice_get peers s ≡ Some (peer r s n)
