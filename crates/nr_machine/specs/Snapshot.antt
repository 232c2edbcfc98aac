-- Facts about the buffers of sockets while a world is restored.
use Rattle.std.specs.Prelude.{◌≡◌, ℕ, ◌≤◌, List, slice_get, Some, None}
use Rattle.nr_sockbuf.specs.Sock.{SockParts}

-- true if the buffers of each socket have this limit
abbrev pub HaveLimit : ℕ → List SockParts → Type 0
HaveLimit limit socks =
    (s : ℕ) (sock : SockParts) → slice_get socks s ≡ Some sock → sock.limit ≡ limit

-- True if all sockets are closed except those below `first` and those below `locks`. The sockets
-- below `locks` are those with a lock.
abbrev pub AreClosedFrom : ℕ → ℕ → List SockParts → Type 0
AreClosedFrom first locks socks =
    (s : ℕ) (sock : SockParts) → slice_get socks s ≡ Some sock → first ≤ s → locks ≤ s
    → sock.opened ≡ None
