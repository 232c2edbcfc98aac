-- Reading a socket's bytes and queues.
use Rattle.std.proofs.Common.{◌≡◌, ◌⊎◌, inl, inr, ℕ, zero, suc, ◌+◌, ◌<◌, ◌≤◌, add-one, Bool, true, false, List, [], ◌∷◌, ◌++◌, get_or, length, take, Option, Some, None, refl, sym, ap, subst, ◌∙◌, arith, unwrap_or}
use Rattle.std.proofs.Math.Seq.{take-length}
use Rattle.std.proofs.lemmas.List.{length-append}
use Rattle.std.proofs.lemmas.Bool.{eq-eqb, eqb-true}
use Rattle.std.proofs.lemmas.Option.{same_Some, slice_get_cases, slice_get_past, slice_get_read, slice_get_within, unwrap_or-slice_get}
use Rattle.std.specs.Prelude.{◌==◌, ◌&&◌, count_by, if◌then◌else◌, option_map, slice_get}
use Rattle.nr_rev.specs.declared.lock.Lock.{Lock}
use Rattle.nr_rev.specs.declared.sides.Side.{Side}
use Rattle.nr_rev.specs.declared.sides.Side.TheVariants.{Read, Write}
use Rattle.nr_rev.specs.declared.sides.Sides.{Sides}
use Rattle.nr_rev.specs.declared.status.Status.{Status}
use Rattle.nr_rev.specs.declared.status.Status.TheVariants.{Queued}
use Rattle.nr_rev.specs.Cell.{bytes_of, queue_of}
use Rattle.nr_rev.specs.Lock.{bit}
use Rattle.nr_rev.specs.Semaphore.{Semaphore, new_semaphore}
use Rattle.nr_rev.specs.Sides.{of_side, same_side, twice}
use Rattle.nr_rev.specs.Socket.{Socket}
use Rattle.nr_rev.specs.WellFormed.{is_queued}
use Rattle.nr_rev.specs.Auxiliary.Worlds.{HasItems}
use Rattle.nr_laws.proofs.BoolLemmas.{both_true}
use Rattle.nr_rev.proofs.NumberLemmas.{count_front}
use Rattle.nr_gsema.specs.Applying.{IsQueuedUp}
use Rattle.nr_gsema.specs.Table.{GoroutineTable}
use Rattle.nr_gsema.specs.Auxiliary.Table.{behind, in_queue, next_in_queue, queue_at, queue_found}
use Rattle.nr_sockbuf.specs.Sock.{OpenSock, SockParts, never_opened}
use Rattle.nr_sockbuf.specs.Auxiliary.Sock.{viewed_bytes}
use Rattle.nr_machine.specs.Sockets.{buffers_in, rest_at}
use Rattle.nr_machine.specs.World.{WorldParts, meant}
use Rattle.nr_machine.proofs.ListLemmas.{get_within}
use Rattle.nr_machine.proofs.SocketsLemmas.{sock_at, socket_at, socket_past}

-- the bytes of a side are the same in the socket and in its buffers
pub viewed : (side : Side) (o : Option OpenSock) → (of_side side (buffers_in o).buffers).bytes ≡ viewed_bytes side o
viewed Read None = refl
viewed Write None = refl
viewed side (Some opened) = refl

-- the buffers that a read at an index returns
pub sock_read : (m : WorldParts) (s : ℕ) (socks : List SockParts) (sock : SockParts) → socks ≡ m.socks → s < length socks → sock ≡ get_or socks s sock → slice_get m.socks s ≡ Some sock
sock_read m s socks sock are within read = subst (λ xs. slice_get xs s ≡ Some sock) are (slice_get_read socks (length socks) s sock refl within read)

module _ (m : WorldParts) (s : ℕ) (side : Side) where
  -- a socket that doesn't exist has no bytes
  pub no_bytes : length m.core.locks.items ≤ s → bytes_of (meant m) s side ≡ None
  no_bytes past =
      ap (λ (o : Option Socket). option_map (λ (socket : Socket). (of_side side socket.buffers).bytes) o)
      (socket_past m.core.locks.items m.core.goroutines.semaphores m.socks s (slice_get_past m.core.locks.items s past))

  module _ (below : s < length m.core.locks.items) where
    lock_there : (lock : Lock) × (slice_get m.core.locks.items s ≡ Some lock)
    lock_there = get_within m.core.locks.items s below

    bytes_seen : bytes_of (meant m) s side ≡ Some (viewed_bytes side (rest_at m.core.goroutines.semaphores m.socks s).sock)
    bytes_seen =
        ap (λ (o : Option Socket). option_map (λ (socket : Socket). (of_side side socket.buffers).bytes) o)
        (socket_at m.core.locks.items m.core.goroutines.semaphores m.socks s lock_there.0 lock_there.1)
        ∙ ap (λ (bytes : List ℕ). Some bytes) (viewed side (rest_at m.core.goroutines.semaphores m.socks s).sock)

    -- a socket without buffers has no bytes
    pub bytes_nowhere : slice_get m.socks s ≡ None → Some [] ≡ bytes_of (meant m) s side
    bytes_nowhere at =
        let none : (rest_at m.core.goroutines.semaphores m.socks s).sock ≡ None =
        ap (λ (t : SockParts). t.opened) (sym (unwrap_or-slice_get m.socks s (never_opened 0)) ∙ ap (λ (o : Option SockParts). unwrap_or o (never_opened 0)) at) in
        sym (bytes_seen ∙ ap (λ (o : Option OpenSock). Some (viewed_bytes side o)) none)

    -- the bytes of a socket's buffers are the socket's bytes
    pub bytes_here : (sock : SockParts) → slice_get m.socks s ≡ Some sock → bytes_of (meant m) s side ≡ Some (viewed_bytes side sock.opened)
    bytes_here sock at =
        bytes_seen ∙ ap (λ (o : Option OpenSock). Some (viewed_bytes side o)) (sock_at m.core.goroutines.semaphores m.socks s sock at)

    -- if copying a buffer allocates memory, the buffer isn't empty
    pub bytes_some : (sock : SockParts) → slice_get m.socks s ≡ Some sock → 0 < length (viewed_bytes side sock.opened) → HasItems (bytes_of (meant m) s side)
    bytes_some sock at some = subst (λ (o : Option (List ℕ)). HasItems o) (sym (bytes_here sock at)) some

-- ---- walking a queue

front_of_more : (g h : ℕ) (q : List ℕ) (b : Bool) → (h == g) ≡ b → count_by (λ x. x == g) (h ∷ q) ≡ bit b + count_by (λ x. x == g) q
front_of_more g h q b is = count_front h g q ∙ ap (λ (x : Bool). bit x + count_by (λ y. y == g) q) is

-- a goroutine in a queue is counted
counted_at : (q : List ℕ) (n g : ℕ) → slice_get q n ≡ Some g → 0 < count_by (λ x. x == g) q
counted_at [] n g at = absurd cc
counted_at (h ∷ q) zero g at =
    let same : h ≡ g = same_Some h g at in
    let more = front_of_more g h q true (eq-eqb h g same) in
    omega (arith, more)
counted_at (h ∷ q) (suc n) g at =
    let rest = counted_at q n g at in
    let more = front_of_more g h q (h == g) refl in
    omega (arith, rest, more)

-- if a goroutine is in the queue once, the goroutine after it has the next index
behind_at : (q : List ℕ) (n g : ℕ) → slice_get q n ≡ Some g → count_by (λ x. x == g) q ≤ 1 → behind g q ≡ slice_get q (suc n)
behind_at [] n g at once = absurd cc
behind_at (h ∷ q) zero g at once = ap (λ (b : Bool). if b then slice_get q 0 else behind g q) (eq-eqb h g (same_Some h g at))
behind_at (h ∷ q) (suc n) g at once = by (h == g) refl (counted_at q n g at) (behind_at q n g at)
  where
    by : (b : Bool) → (h == g) ≡ b → 0 < count_by (λ x. x == g) q → (count_by (λ x. x == g) q ≤ 1 → behind g q ≡ slice_get q (suc n)) → behind g (h ∷ q) ≡ slice_get q (suc n)
    by true is rest goes =
        let more = front_of_more g h q true is in
        absurd (omega (arith, rest, more, once))
    by false is rest goes =
        let more = front_of_more g h q false is in
        ap (λ (b : Bool). if b then slice_get q 0 else behind g q) is ∙ goes (omega (arith, more, once))

same_sides : (a b : Side) → same_side a b ≡ true → b ≡ a
same_sides Read Read e = refl
same_sides Read Write e = cc
same_sides Write Read e = cc
same_sides Write Write e = refl

-- a goroutine that is counted as queued has the status Queued
queued_status : (s : ℕ) (side : Side) (o : Option Status) → 0 < bit (is_queued s side o) → o ≡ Some (Queued s side)
queued_status s side None some = absurd (omega (arith, some))
queued_status s side (Some (Queued k other)) some = by ((s == k) && same_side side other) refl some
  where
    by : (b : Bool) → ((s == k) && same_side side other) ≡ b → 0 < bit b → Some (Queued k other) ≡ Some (Queued s side)
    by true is up =
        let both = both_true (s == k) (same_side side other) is in
        ap (λ (n : ℕ). Some (Queued n other)) (sym (eqb-true s k both.0)) ∙ ap (λ (x : Side). Some (Queued s x)) (same_sides side other both.1)
    by false is up = absurd (omega (arith, up))
queued_status s side (Some _) some = absurd (omega (arith, some))

bit_small : (b : Bool) → bit b ≤ 1
bit_small true = omega arith
bit_small false = omega arith

module _ (t : GoroutineTable) (h : IsQueuedUp t) (s : ℕ) (side : Side) (n g : ℕ) where
  behind_in : (both : Sides Semaphore) → slice_get t.semaphores s ≡ Some both → slice_get (of_side side both).queue n ≡ Some g
      → next_in_queue g t ≡ slice_get (of_side side both).queue (suc n)
  behind_in both there at =
      let counts : count_by (λ x. x == g) (of_side side both).queue ≡ bit (is_queued s side (slice_get t.goroutines g)) = h.queued s side both there g in
      let some = counted_at (of_side side both).queue n g at in
      let small = bit_small (is_queued s side (slice_get t.goroutines g)) in
      ap (λ (o : Option Status). in_queue (behind g) o t) (queued_status s side (slice_get t.goroutines g) (omega (arith, some, counts)))
      ∙ ap (λ (o : Option (Sides Semaphore)). behind g (queue_found side o)) there
      ∙ behind_at (of_side side both).queue n g at (omega (arith, counts, small))

  by_found : (o : Option (Sides Semaphore)) → slice_get t.semaphores s ≡ o → slice_get (queue_found side o) n ≡ Some g → next_in_queue g t ≡ slice_get (queue_found side o) (suc n)
  by_found None there at = absurd cc
  by_found (Some both) there at = behind_in both there at

  -- the link of a goroutine in a queue leads to the next goroutine
  pub next_at : slice_get (queue_at s side t) n ≡ Some g → next_in_queue g t ≡ slice_get (queue_at s side t) (suc n)
  next_at at = by_found (slice_get t.semaphores s) refl at

-- ---- the queue of a socket

queue_known : (side : Side) (o : Option (Sides Semaphore)) → (of_side side (unwrap_or o (twice new_semaphore))).queue ≡ queue_found side o
queue_known Read None = refl
queue_known Write None = refl
queue_known side (Some both) = refl

module _ (m : WorldParts) (s : ℕ) (side : Side) where
  -- a socket that doesn't exist has no queue
  pub no_queue : length m.core.locks.items ≤ s → queue_of (meant m) s side ≡ None
  no_queue past =
      ap (λ (o : Option Socket). option_map (λ (socket : Socket). (of_side side socket.semaphores).queue) o)
      (socket_past m.core.locks.items m.core.goroutines.semaphores m.socks s (slice_get_past m.core.locks.items s past))

  -- an existing socket's queue is the one in the goroutine table
  pub queue_here : s < length m.core.locks.items → queue_of (meant m) s side ≡ Some (queue_at s side m.core.goroutines)
  queue_here below =
      let lock = get_within m.core.locks.items s below in
      ap (λ (o : Option Socket). option_map (λ (socket : Socket). (of_side side socket.semaphores).queue) o)
      (socket_at m.core.locks.items m.core.goroutines.semaphores m.socks s lock.0 lock.1)
      ∙ ap (λ (both : Sides Semaphore). Some (of_side side both).queue) (sym (unwrap_or-slice_get m.core.goroutines.semaphores s (twice new_semaphore)))
      ∙ ap (λ (q : List ℕ). Some q) (queue_known side (slice_get m.core.goroutines.semaphores s))

  -- if copying a semaphore's queue allocates memory, a goroutine is queued
  pub queue_some : s < length m.core.locks.items → 0 < length (queue_at s side m.core.goroutines) → HasItems (queue_of (meant m) s side)
  queue_some below some = subst (λ (o : Option (List ℕ)). HasItems o) (sym (queue_here below)) some

-- ---- the goroutines found so far

take_one_more : (q : List ℕ) (n g : ℕ) → slice_get q n ≡ Some g → take n q ++ g ∷ [] ≡ take (suc n) q
take_one_more [] n g at = absurd cc
take_one_more (h ∷ q) zero g at = ap (λ (x : ℕ). x ∷ []) (sym (same_Some h g at))
take_one_more (h ∷ q) (suc n) g at = ap (λ (xs : List ℕ). h ∷ xs) (take_one_more q n g at)

-- true if these items are the first of a queue, and `next` comes after them
abbrev pub Walked : List ℕ → List ℕ → Option ℕ → Type 0
Walked q items next = (items ≡ take (length items) q) × (next ≡ slice_get q (length items)) × (length items ≤ length q)

-- if another goroutine comes next, the queue is longer than the items so far
pub walk_goes : (q items : List ℕ) (next : Option ℕ) (g : ℕ) → Walked q items next → next ≡ Some g → length items < length q
walk_goes q items next g walked is = slice_get_within q (length items) g (sym walked.1 ∙ is)

-- one more goroutine
pub walk_more : (q items more : List ℕ) (next after : Option ℕ) (g : ℕ) → Walked q items next → next ≡ Some g → more ≡ items ++ g ∷ [] → after ≡ slice_get q (suc (length items)) → Walked q more after
walk_more q items more next after g walked is pushed goes =
    let at : slice_get q (length items) ≡ Some g = sym walked.1 ∙ is in
    let within : length items < length q = slice_get_within q (length items) g at in
    let many : length more ≡ suc (length items) = ap length pushed ∙ length-append items (g ∷ []) ∙ add-one (length items) in (
      pushed ∙ ap (λ (xs : List ℕ). xs ++ g ∷ []) walked.0 ∙ take_one_more q (length items) g at ∙ ap (λ (k : ℕ). take k q) (sym many),
      goes ∙ ap (slice_get q) (sym many),
      omega (arith, many, within),
    )

-- if no goroutine comes next, the items are the whole queue
pub walk_ends : (q items : List ℕ) (next : Option ℕ) → Walked q items next → next ≡ None → items ≡ q
walk_ends q items next walked is = by (slice_get_cases q (length items)).1
  where
    by : ((x : ℕ) × (length items < length q) × (slice_get q (length items) ≡ Some x) × (get_or q (length items) x ≡ x)) ⊎ ((length q ≤ length items) × (slice_get q (length items) ≡ None)) → items ≡ q
    by (inl more) = absurd (let none : Some more.0 ≡ None = sym more.2 ∙ sym walked.1 ∙ is in cc)
    by (inr past) =
        let most = past.0 in
        let least = walked.2 in
        let all : length items ≡ length q = omega (arith, most, least) in
        walked.0 ∙ ap (λ (k : ℕ). take k q) all ∙ take-length q
