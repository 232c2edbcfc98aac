-- The sockets after a change to a lock, to semaphores or to buffers, and after a socket is opened.
use Rattle.std.proofs.Common.{◌≡◌, ◌≢◌, ℕ, ◌<◌, List, [], ◌∷◌, ◌++◌, length, set, Some, None, refl, sym, ap, ◌∙◌, arith}
use Rattle.std.proofs.lemmas.List.{get_or-set_same, get_or-set_other}
use Rattle.std.proofs.lemmas.Option.{get_or_from_slice_get}
use Rattle.std.specs.Prelude.{slice_get}
use Rattle.nr_rev.specs.declared.lock.Lock.{Lock}
use Rattle.nr_rev.specs.declared.sides.Sides.{Sides}
use Rattle.nr_rev.specs.Semaphore.{Semaphore, new_semaphore}
use Rattle.nr_rev.specs.Sides.{twice}
use Rattle.nr_rev.specs.Socket.{Socket}
use Rattle.nr_sockbuf.specs.Sock.{SockParts, never_opened}
use Rattle.nr_machine.specs.Numbered.{numbered}
use Rattle.nr_machine.specs.NumberedLaws.{numbered_at}
use Rattle.nr_machine.specs.Sockets.{SocketRest, rest_at, socket_of, sockets_of}
use Rattle.nr_machine.specs.World.{WorldParts}
use Rattle.nr_machine.proofs.ListLemmas.{set_same}
use Rattle.nr_machine.proofs.NumberedLemmas.{length-numbered, numbered_past, numbered_push, numbered_set}

-- socket s with this lock, and with the semaphores and buffers of the parts
abbrev pub socket_with : WorldParts → ℕ → Lock → Socket
socket_with m s lock = socket_of lock (rest_at m.core.goroutines.semaphores m.socks s)

-- a socket that exists
pub socket_at : (locks : List Lock) (semaphores : List (Sides Semaphore)) (socks : List SockParts) (s : ℕ) (lock : Lock) → slice_get locks s ≡ Some lock
    → slice_get (sockets_of locks semaphores socks) s ≡ Some (socket_of lock (rest_at semaphores socks s))
socket_at locks semaphores socks s lock at = numbered_at socket_of 0 s s locks (rest_at semaphores socks) lock (omega arith) at

-- a socket that doesn't exist
pub socket_past : (locks : List Lock) (semaphores : List (Sides Semaphore)) (socks : List SockParts) (s : ℕ) → slice_get locks s ≡ None
    → slice_get (sockets_of locks semaphores socks) s ≡ None
socket_past locks semaphores socks s at = numbered_past socket_of 0 s locks (rest_at semaphores socks) at

pub length-sockets_of : (locks : List Lock) (semaphores : List (Sides Semaphore)) (socks : List SockParts) → length (sockets_of locks semaphores socks) ≡ length locks
length-sockets_of locks semaphores socks = length-numbered socket_of 0 locks (rest_at semaphores socks)

-- the lock of socket s changes
pub lock_set : (locks : List Lock) (semaphores : List (Sides Semaphore)) (socks : List SockParts) (s : ℕ) (lock : Lock)
    → sockets_of (set locks s lock) semaphores socks ≡ set (sockets_of locks semaphores socks) s (socket_of lock (rest_at semaphores socks s))
lock_set locks semaphores socks s lock =
    numbered_set socket_of 0 s s locks lock (rest_at semaphores socks) (rest_at semaphores socks) (omega arith) (λ m apart. refl)

-- the other parts of socket s change
rest_set : (locks : List Lock) (old new : ℕ → SocketRest) (s : ℕ) (lock : Lock) → slice_get locks s ≡ Some lock → ((m : ℕ) → m ≢ s → new m ≡ old m)
    → numbered socket_of 0 locks new ≡ set (numbered socket_of 0 locks old) s (socket_of lock (new s))
rest_set locks old new s lock at others =
    ap (λ (ls : List Lock). numbered socket_of 0 ls new) (sym (set_same locks s lock at))
    ∙ numbered_set socket_of 0 s s locks lock old new (omega arith) others

-- the semaphores of socket s change
pub semaphores_set : (locks : List Lock) (semaphores : List (Sides Semaphore)) (socks : List SockParts) (s : ℕ) (lock : Lock) (both : Sides Semaphore)
    → slice_get locks s ≡ Some lock → s < length semaphores
    → sockets_of locks (set semaphores s both) socks
    ≡ set (sockets_of locks semaphores socks) s (record (socket_of lock (rest_at semaphores socks s)) { semaphores = both })
semaphores_set locks semaphores socks s lock both at within =
    let new : ℕ → SocketRest = rest_at (set semaphores s both) socks in
    rest_set locks (rest_at semaphores socks) new s lock at
    (λ m apart. ap (λ (x : Sides Semaphore). record (rest_at semaphores socks m) { semaphores = x })
    (get_or-set_other semaphores s m both (twice new_semaphore) apart))
    ∙ ap (λ (x : Sides Semaphore). set (sockets_of locks semaphores socks) s (record (socket_of lock (rest_at semaphores socks s)) { semaphores = x }))
    (get_or-set_same semaphores s both (twice new_semaphore) within)

-- the buffers of socket s change
pub sock_set : (locks : List Lock) (semaphores : List (Sides Semaphore)) (socks : List SockParts) (s : ℕ) (lock : Lock) (sock : SockParts)
    → slice_get locks s ≡ Some lock → s < length socks
    → sockets_of locks semaphores (set socks s sock)
    ≡ set (sockets_of locks semaphores socks) s
    (socket_of lock (record (rest_at semaphores socks s) { sock = sock.opened }))
sock_set locks semaphores socks s lock sock at within =
    rest_set locks (rest_at semaphores socks) (rest_at semaphores (set socks s sock)) s lock at
    (λ m apart. ap (λ (x : SockParts). record (rest_at semaphores socks m) { sock = x.opened })
    (get_or-set_other socks s m sock (never_opened 0) apart))
    ∙ ap (λ (x : SockParts). set (sockets_of locks semaphores socks) s
    (socket_of lock (record (rest_at semaphores socks s) { sock = x.opened })))
    (get_or-set_same socks s sock (never_opened 0) within)

-- one more socket
pub socket_push : (locks : List Lock) (semaphores : List (Sides Semaphore)) (socks : List SockParts) (lock : Lock) (sock : SockParts)
    → length locks < length socks
    → sockets_of (locks ++ lock ∷ []) semaphores (set socks (length locks) sock)
    ≡ sockets_of locks semaphores socks ++ socket_of lock (record (rest_at semaphores socks (length locks)) { sock = sock.opened }) ∷ []
socket_push locks semaphores socks lock sock within =
    let n = length locks in
    numbered_push socket_of 0 n locks lock (rest_at semaphores socks) (rest_at semaphores (set socks n sock)) (omega arith)
    (λ m apart. ap (λ (x : SockParts). record (rest_at semaphores socks m) { sock = x.opened })
    (get_or-set_other socks n m sock (never_opened 0) apart))
    ∙ ap (λ (x : SockParts). sockets_of locks semaphores socks ++ socket_of lock (record (rest_at semaphores socks n) { sock = x.opened }) ∷ [])
    (get_or-set_same socks n sock (never_opened 0) within)

-- the buffers of socket s, if they exist
pub sock_at : (semaphores : List (Sides Semaphore)) (socks : List SockParts) (s : ℕ) (sock : SockParts) → slice_get socks s ≡ Some sock
    → (rest_at semaphores socks s).sock ≡ sock.opened
sock_at semaphores socks s sock at = ap (λ (x : SockParts). x.opened) (get_or_from_slice_get socks s sock (never_opened 0) at)

-- the semaphores of socket s, if they exist
pub semaphores_at : (semaphores : List (Sides Semaphore)) (socks : List SockParts) (s : ℕ) (both : Sides Semaphore) → slice_get semaphores s ≡ Some both
    → (rest_at semaphores socks s).semaphores ≡ both
semaphores_at semaphores socks s both at = get_or_from_slice_get semaphores s both (twice new_semaphore) at
