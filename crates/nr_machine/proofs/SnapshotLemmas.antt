-- Sockets are closed one by one as a world is restored.
use Rattle.std.proofs.Common.{◌≡◌, ◌≢◌, ℕ, ◌+◌, ◌-◌, ◌<◌, ◌≤◌, ◌⊎◌, inl, inr, zero, suc, List, [], ◌∷◌, ◌++◌, length, take, drop, replicate, Some, None, refl, sym, ap, ◌∙◌, subst, arith}
use Rattle.std.proofs.lemmas.List.{append-nil, get_or-drop, get_or-replicate, length-append, length-drop, length-replicate, same_lists, take-append-drop}
use Rattle.std.proofs.lemmas.Option.{slice_get-get_or, slice_get_read, slice_get_within}
use Rattle.std.proofs.Math.ListN.{get_or}
use Rattle.std.specs.List.{slice_get}
use Rattle.std.specs.Prelude.{slice_set}
use Rattle.nr_rev.proofs.ListUpdateLemmas.{slice_get-set_cases}
use Rattle.nr_sockbuf.specs.Sock.{SockParts, never_opened}
use Rattle.nr_machine.specs.Snapshot.{AreClosedFrom, HaveLimit}
use Rattle.nr_machine.specs.Fits.{PartsFit}
use Rattle.nr_machine.specs.World.{WorldParts}
use Rattle.nr_rev.specs.declared.limits.Limits.{Limits}
use Rattle.nr_machine.specs.declared.world_core.Core.{Core}

-- Each buffer has the limit. A socket from `first` on is closed if it comes before `socket` or has
-- no lock.
pub record AreReset (buffer first socket locks : ℕ) (socks : List SockParts) : Type 0 where
  pub limit : HaveLimit buffer socks
  pub closed : (s : ℕ) (sock : SockParts) → slice_get socks s ≡ Some sock → first ≤ s → (s < socket) ⊎ (locks ≤ s) → sock.opened ≡ None

pub reset-init : (buffer first locks : ℕ) (socks : List SockParts) → HaveLimit buffer socks → AreClosedFrom first locks socks → AreReset buffer first first locks socks
reset-init buffer first locks socks limit closed =
    record {
      limit = limit;
      closed = λ s sock at from which. elim which [
        | inl before ↦ absurd (omega (arith, from, before))
        | inr none ↦ closed s sock at from none
      ];
    }

-- one more socket
pub reset-next : (buffer first socket locks : ℕ) (socks : List SockParts) (old : SockParts) → slice_get socks socket ≡ Some old → AreReset buffer first socket locks socks
    → AreReset buffer first (socket + 1) locks (slice_set socks socket (never_opened old.limit))
reset-next buffer first socket locks socks old there reset =
    let cases = λ (s : ℕ). slice_get-set_cases socks socket old (never_opened old.limit) s there in
    record {
      limit = λ s sock at. elim (cases s) [
        | inl here ↦
            let both : Some (never_opened old.limit) ≡ Some sock = sym here.1 ∙ at in
            let is : never_opened old.limit ≡ sock = cc in
            ap (λ (x : SockParts). x.limit) (sym is) ∙ reset.limit socket old there
        | inr other ↦ reset.limit s sock (sym other.1 ∙ at)
      ];
      closed = λ s sock at from which. elim (cases s) [
        | inl here ↦
            let both : Some (never_opened old.limit) ≡ Some sock = sym here.1 ∙ at in
            let is : never_opened old.limit ≡ sock = cc in
            ap (λ (x : SockParts). x.opened) (sym is)
        | inr other ↦
            let not = other.0 in
            let sooner : (s < socket) ⊎ (locks ≤ s) = elim which [
              | inl before ↦ inl (nearer s socket before not)
              | inr none ↦ inr none
            ] in
            reset.closed s sock (sym other.1 ∙ at) from sooner
      ];
    }
  where
    nearer : (s socket : ℕ) → s < socket + 1 → s ≢ socket → s < socket
    nearer s socket before not = grind arith

same_sock : (sock : SockParts) (buffer : ℕ) → sock.limit ≡ buffer → sock.opened ≡ None → sock ≡ never_opened buffer
same_sock sock buffer limit opened =
    subst (λ b. sock ≡ record { limit = b; opened = None }) limit (subst (λ o. sock ≡ record { limit = sock.limit; opened = o }) opened refl)

-- when no socket with a lock is left, all sockets from `first` on are closed
pub reset-all : (buffer first socket locks : ℕ) (socks : List SockParts) → locks ≤ socket → first ≤ length socks → AreReset buffer first socket locks socks
    → socks ≡ take first socks ++ replicate (length socks - first) (never_opened buffer)
reset-all buffer first socket locks socks reached within reset =
    let rest : drop first socks ≡ replicate (length socks - first) (never_opened buffer) =
    same_lists (drop first socks) (replicate (length socks - first) (never_opened buffer))
    (length-drop first socks ∙ sym (length-replicate (length socks - first) (never_opened buffer)))
    (λ k d below.
    let size = length-drop first socks in
    let inside : first + k < length socks = omega (arith, below, size, within) in
    let sock = get_or socks (first + k) d in
    let at = slice_get-get_or socks (first + k) d inside in
    let which : (first + k < socket) ⊎ (locks ≤ first + k) = either (first + k) socket locks reached in
    let is = same_sock sock buffer (reset.limit (first + k) sock at) (reset.closed (first + k) sock at (omega arith) which) in
    get_or-drop first socks k d ∙ is ∙ sym (get_or-replicate (length socks - first) k (never_opened buffer) d (omega (arith, inside)))) in
    sym (take-append-drop first socks) ∙ ap (λ xs. take first socks ++ xs) rest
  where
    either : (s socket locks : ℕ) → locks ≤ socket → (s < socket) ⊎ (locks ≤ s)
    either s socket locks reached = grind arith

-- parts with equal cores and equal buffers are equal
pub parts_are : (a b : Core) (xs ys : List SockParts) → a ≡ b → xs ≡ ys → ◌≡◌ {A = WorldParts} (record { core = a; socks = xs }) (record { core = b; socks = ys })
parts_are a b xs ys core socks = rw (core, socks) refl

-- if two lists are equal from an index on, they have the same item at the index
pub same_at : (i : ℕ) (xs ys : List SockParts) (x : SockParts) → drop i xs ≡ drop i ys → i < length ys → x ≡ get_or xs i x → slice_get ys i ≡ Some x
same_at i xs ys x same within read =
    let here : i + 0 ≡ i = omega arith in
    let there : get_or xs i x ≡ get_or ys i x =
    ap (λ k. get_or xs k x) (sym here) ∙ sym (get_or-drop i xs 0 x) ∙ ap (λ zs. get_or zs 0 x) same ∙ get_or-drop i ys 0 x ∙ ap (λ k. get_or ys k x) here in
    slice_get_read ys (length ys) i x refl within (read ∙ there)

-- appending to a list doesn't change the items at its indexes
pub slice_get-before : {X : Type 0} (xs ys : List X) (s : ℕ) (x : X) → slice_get xs s ≡ Some x → slice_get (xs ++ ys) s ≡ Some x
slice_get-before [] ys s x at = cc
slice_get-before (y ∷ xs) ys zero x at = at
slice_get-before (y ∷ xs) ys (suc s) x at = slice_get-before xs ys s x at

-- if xs is written over the start of ys, each item comes from xs, or from the rest of ys
pub slice_get-written : {X : Type 0} (xs ys : List X) (s : ℕ) (x : X) → slice_get (xs ++ drop (length xs) ys) s ≡ Some x
    → (slice_get xs s ≡ Some x) ⊎ ((length xs ≤ s) × (slice_get ys s ≡ Some x))
slice_get-written [] ys s x at = inr (omega arith, at)
slice_get-written (y ∷ xs) ys zero x at = inl at
slice_get-written (y ∷ xs) [] (suc s) x at = inl (subst (λ zs. slice_get zs s ≡ Some x) (append-nil xs) at)
slice_get-written (y ∷ xs) (z ∷ ys) (suc s) x at = elim (slice_get-written xs ys s x at) [
  | inl in_first ↦ inl in_first
  | inr behind ↦ let far = behind.0 in inr (omega (arith, far), behind.1)
]

-- true if the snapshot's sockets are these opened and closed ones, and its limits are the world's
pub record IsOpened (world snapshot : WorldParts) (opened rest : List SockParts) : Type 0 where
  pub socks : snapshot.socks ≡ opened ++ rest
  pub limits : snapshot.core.limits ≡ world.core.limits

-- the parts visible to contracts satisfy `IsOpened`
pub is_opened : (seen world_seen world snapshot : WorldParts) (kept opened rest : List SockParts) → seen ≡ snapshot → world_seen ≡ world → seen.socks ≡ kept ++ rest → kept ≡ opened
    → world_seen.core.limits ≡ seen.core.limits → IsOpened world snapshot opened rest
is_opened seen world_seen world snapshot kept opened rest is world_is socks same limits =
    record {
      socks = ap (λ (m : WorldParts). m.socks) (sym is) ∙ socks ∙ ap (λ xs. xs ++ rest) same;
      limits = ap (λ (m : WorldParts). m.core.limits) (sym is) ∙ sym limits ∙ ap (λ (m : WorldParts). m.core.limits) world_is;
    }

-- a world, and a snapshot with the same limits and these sockets
module _ (world snapshot : WorldParts) (opened rest : List SockParts) (there : PartsFit world) (kept : PartsFit snapshot) (of : IsOpened world snapshot opened rest) where
  -- the opened sockets of the snapshot have the world's limit
  pub opened_limit : HaveLimit world.core.limits.buffer opened
  opened_limit s sock at =
      (kept.socks s sock (subst (λ xs. slice_get xs s ≡ Some sock) (sym of.socks) (slice_get-before opened rest s sock at))).limit ∙ ap (λ (l : Limits). l.buffer) of.limits

  -- the number of opened sockets in the snapshot is at most the world's number of sockets
  pub opened_within : length opened ≤ length world.socks
  opened_within =
      let many = length-append opened rest in
      let of_snapshot = ap length (sym of.socks) ∙ kept.socks_made ∙ ap (λ (l : Limits). l.sockets) of.limits ∙ sym there.socks_made in
      omega (arith, many, of_snapshot)

  -- replacing the world's first sockets by the opened ones doesn't change the number of sockets
  pub written_count : length (opened ++ drop (length opened) world.socks) ≡ length world.socks
  written_count =
      let many = length-append opened (drop (length opened) world.socks) in
      let left = length-drop (length opened) world.socks in
      let within = opened_within in
      omega (arith, many, left, within)

  -- after the write, each socket has the limit
  pub written_limit : HaveLimit world.core.limits.buffer (opened ++ drop (length opened) world.socks)
  written_limit s sock at = elim (slice_get-written opened world.socks s sock at) [
    | inl first ↦ opened_limit s sock first
    | inr behind ↦ (there.socks s sock behind.1).limit
  ]

  -- after the write, a socket is closed if it comes after the opened ones and has no lock
  pub written_closed : AreClosedFrom (length opened) (length world.core.locks.items) (opened ++ drop (length opened) world.socks)
  written_closed s sock at from none = elim (slice_get-written opened world.socks s sock at) [
    | inl first ↦ let within = slice_get_within opened s sock first in absurd (omega (arith, within, from))
    | inr behind ↦ (there.socks s sock behind.1).closed none
  ]
