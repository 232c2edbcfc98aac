-- Steps on a socket's buffers have the same outcome in the parts and in the machine.
use Rattle.std.proofs.Common.{◌≡◌, inl, inr, ℕ, ◌+◌, ◌/◌, ◌<◌, ◌≤◌, Bool, true, false, List, [], get_or, length, set, Option, Some, None, Result, Ok, Err, refl, sym, ap, subst, ◌∙◌, arith, length-set, set-set}
use Rattle.std.proofs.lemmas.Option.{same_Some, slice_get_past, slice_get_read, slice_get_within}
use Rattle.std.specs.Prelude.{IfErr, IfOk, OnErr, slice_get}
use Rattle.nr_rev.specs.declared.answer.Answer.{Answer}
use Rattle.nr_rev.specs.declared.lock.Lock.{Lock}
use Rattle.nr_rev.specs.declared.refusal.Refusal.{Refusal}
use Rattle.nr_rev.specs.declared.refusal.Refusal.TheVariants.{NoSuchSocket}
use Rattle.nr_rev.specs.declared.step.Step.{Step}
use Rattle.nr_rev.specs.declared.step.Step.TheVariants.{Arrive, PeerClose, SysRead, SysWrite, Drain, CloseWrite}
use Rattle.nr_rev.specs.Refusing.{◌>>◌}
use Rattle.nr_rev.specs.Reversible.{Refuses}
use Rattle.nr_rev.specs.Socket.{Socket}
use Rattle.nr_rev.specs.Step.{Outcome, outcome}
use Rattle.nr_rev.specs.World.{World, with_socket}
use Rattle.nr_rev.specs.Worlds.{bytes_left, refusal_of}
use Rattle.nr_rev.proofs.ListUpdateLemmas.{slice_get-set_cases, slice_get-set_here}
use Rattle.nr_sockbuf.specs.Delta as sock_delta
use Rattle.nr_sockbuf.proofs.MemoryLemmas.{memory_is_for_bytes}
use Rattle.nr_sockbuf.proofs.AgreementLemmas.{arrive_agrees, closewrite_agrees, drain_agrees, peerclose_agrees, sysread_agrees, syswrite_agrees}
use Rattle.nr_sockbuf.specs.Laws.{leaves_open, refused_for}
use Rattle.nr_sockbuf.specs.Agreement.{IsThere, SockLoses, lifted, put_back, sock_of}
use Rattle.nr_sockbuf.specs.Op as sock
use Rattle.nr_sockbuf.specs.Sock.{OpenSock, SockParts, is_opened}
use Rattle.nr_sockbuf.specs.declared.delta.SockDelta.{SockDelta}
use Rattle.nr_machine.specs.declared.delta.TheConstants.{MOST_WORDS}
use Rattle.nr_machine.specs.declared.delta.WorldUndo.{WorldUndo}
use Rattle.nr_machine.specs.declared.delta.WorldUndo.TheVariants.{Sock}
use Rattle.nr_machine.specs.Asked.{TimersMade, asked_of}
use Rattle.nr_machine.specs.Delta.{SockBack}
use Rattle.nr_machine.specs.Fits.{IsWorld, PartsFit, SockFits}
use Rattle.nr_machine.specs.Made.{TakesMemory, parts_reason}
use Rattle.nr_machine.specs.Auxiliary.Made.{Advanced, MakesStep, LeadsBackWithin}
use Rattle.nr_machine.specs.Sockets.{SocketRest, buffers_in, rest_at, socket_of}
use Rattle.nr_machine.specs.Transfers.{IsTransfer}
use Rattle.nr_machine.specs.World.{WorldParts, meant}
use Rattle.nr_machine.proofs.ListLemmas.{get_within, set_same}
use Rattle.nr_machine.proofs.SocketsLemmas.{length-sockets_of, sock_at, sock_set, socket_at, socket_past, socket_with}

-- ---- a step on a socket's buffers has the machine's outcome

goes_on : {r : Result (Unit {0}) Refusal} (x : Outcome) → r ≡ Ok tt → (r >> x) ≡ x
goes_on x is = ap (λ r. r >> x) is

-- if the socket exists, its buffers determine the outcome
transfer_leads : (w : World) (s : ℕ) (socket : Socket) (step : Step) → IsTransfer s w step → IsThere s socket w → outcome w step ≡ lifted s socket w (sock.outcome (sock_of socket w) step)
transfer_leads w s socket (Arrive t bytes) is there = rw (is) (arrive_agrees s bytes socket w there)
transfer_leads w s socket (PeerClose t) is there = rw (is) (peerclose_agrees s socket w there)
transfer_leads w s socket (SysRead g t n) is there = rw (is.0) (sysread_agrees g s n socket w there ∙ goes_on _ is.1)
transfer_leads w s socket (SysWrite g t bytes) is there = rw (is.0) (syswrite_agrees g s bytes socket w there ∙ goes_on _ is.1)
transfer_leads w s socket (Drain t n) is there = rw (is) (drain_agrees s n socket w there)
transfer_leads w s socket (CloseWrite g t) is there = rw (is.0) (closewrite_agrees g s socket w there ∙ goes_on _ is.1)
transfer_leads w s socket _ is there = absurd is

-- if the socket doesn't exist, the step is refused
transfer_nowhere : (w : World) (s : ℕ) (step : Step) → IsTransfer s w step → slice_get w.sockets s ≡ None → outcome w step ≡ Err NoSuchSocket
transfer_nowhere w s (Arrive t bytes) is none = rw (is, none) refl
transfer_nowhere w s (PeerClose t) is none = rw (is, none) refl
transfer_nowhere w s (SysRead g t n) is none = rw (is.0, is.1, none) refl
transfer_nowhere w s (SysWrite g t bytes) is none = rw (is.0, is.1, none) refl
transfer_nowhere w s (Drain t n) is none = rw (is, none) refl
transfer_nowhere w s (CloseWrite g t) is none = rw (is.0, is.1, none) refl
transfer_nowhere w s _ is none = absurd is

-- these steps make no requests to the timers
pub asks_nothing : (m : WorldParts) (s : ℕ) (step : Step) → IsTransfer s (meant m) step → asked_of m step ≡ []
asks_nothing m s (Arrive t bytes) is = refl
asks_nothing m s (PeerClose t) is = refl
asks_nothing m s (SysRead g t n) is = refl
asks_nothing m s (SysWrite g t bytes) is = refl
asks_nothing m s (Drain t n) is = refl
asks_nothing m s (CloseWrite g t) is = refl
asks_nothing m s _ is = absurd is

-- ---- the socket of the parts

open_again : (o : Option OpenSock) → is_opened o ≡ true → Some (buffers_in o) ≡ o
open_again None is = cc
open_again (Some opened) is = refl

-- the buffers in the parts are those of the world's socket
sock_seen : (m : WorldParts) (s : ℕ) (lock : Lock) (before : SockParts) → PartsFit m → slice_get m.core.locks.items s ≡ Some lock → slice_get m.socks s ≡ Some before
    → sock_of (socket_with m s lock) (meant m) ≡ before
sock_seen m s lock before h locked at =
    let fits : SockFits m.core s before = h.socks s before at in
    ap (λ (o : Option OpenSock). record { limit = m.core.limits.buffer; opened = Some (buffers_in o) }) (sock_at m.core.goroutines.semaphores m.socks s before at)
    ∙ ap (λ (o : Option OpenSock). record { limit = m.core.limits.buffer; opened = o }) (open_again before.opened (fits.opened (slice_get_within m.core.locks.items s lock locked)))
    ∙ ap (λ (limit : ℕ). record { limit = limit; opened = before.opened }) (sym fits.limit)

-- the parts after the buffers of socket s change
abbrev pub with_sock : ℕ → SockParts → WorldParts → WorldParts
with_sock s sock m = record m { socks = set m.socks s sock }

put_means : (lock : Lock) (rest : SocketRest) (o : Option OpenSock) → is_opened o ≡ true → socket_of lock (record rest { sock = o }) ≡ put_back o (socket_of lock rest)
put_means lock rest None is = cc
put_means lock rest (Some opened) is = refl

-- changing the buffers in the parts changes them in the world
sock_means : (m : WorldParts) (s : ℕ) (lock : Lock) (after : SockParts) → slice_get m.core.locks.items s ≡ Some lock → s < length m.socks → is_opened after.opened ≡ true
    → meant (with_sock s after m) ≡ with_socket s (put_back after.opened (socket_with m s lock)) (meant m)
sock_means m s lock after locked within is =
    ap (λ (sockets : List Socket). record (meant m) { sockets = sockets }) (sock_set m.core.locks.items m.core.goroutines.semaphores m.socks s lock after locked within)
    ∙ ap (λ (socket : Socket). with_socket s socket (meant m)) (put_means lock (rest_at m.core.goroutines.semaphores m.socks s) after.opened is)

-- the parts still fit after the buffers change
sock_fits : (m : WorldParts) (s : ℕ) (before after : SockParts) → PartsFit m → slice_get m.socks s ≡ Some before → SockFits m.core s after → PartsFit (with_sock s after m)
sock_fits m s before after h at fits =
    record {
      core = h.core;
      socks_made = length-set m.socks s after ∙ h.socks_made;
      socks = λ k x is.
          elim (slice_get-set_cases m.socks s before after k at) [
            | inl here ↦ subst (λ (y : SockParts). SockFits m.core k y) (same_Some after x (sym here.1 ∙ is)) (subst (λ (n : ℕ). SockFits m.core n after) (sym here.0) fits)
            | inr other ↦ h.socks k x (sym other.1 ∙ is)
          ];
      unopened = h.unopened;
      unarmed = h.unarmed;
    }

-- undoing the delta of the buffers restores the parts
pub sock_back : (m : WorldParts) (s : ℕ) (delta : SockDelta) (before after : SockParts) → slice_get m.socks s ≡ Some before → sock_delta.LeadsBack delta after before
    → SockBack s delta (with_sock s after m) m
sock_back m s delta before after at back =
    record {
      before = before;
      after = after;
      there = slice_get-set_here m.socks s before after at;
      back = back;
      rest = ap (λ (socks : List SockParts). record m { socks = socks }) (sym (set-set m.socks s after before ∙ set_same m.socks s before at));
    }

-- every opened socket has buffers
sock_below : (m : WorldParts) (s : ℕ) → IsWorld m → s < length m.core.locks.items → s < length m.socks
sock_below m s h below =
    let many : length (meant m).sockets ≡ length m.core.locks.items = length-sockets_of m.core.locks.items m.core.goroutines.semaphores m.socks in
    let most = h.meaning.sockets_limited in
    let made = h.parts.socks_made in
    omega (arith, below, many, most, made)

-- if socket s exists, its buffers are the item at index s of the list of buffers
pub sock_found : (m : WorldParts) (s n : ℕ) (sock : SockParts) → IsWorld m → n ≡ length m.core.locks.items → s < n → sock ≡ get_or m.socks s sock
    → (s < length m.core.locks.items) × (slice_get m.socks s ≡ Some sock)
sock_found m s n sock h len within read =
    let below : s < length m.core.locks.items = omega (arith, len, within) in
    (below, slice_get_read m.socks (length m.socks) s sock refl (sock_below m s h below) read)

-- unchanged buffers leave the parts as they are
pub sock_same : (m : WorldParts) (s : ℕ) (before after : SockParts) → slice_get m.socks s ≡ Some before → after ≡ before → with_sock s after m ≡ m
sock_same m s before after at same =
    ap (λ (t : SockParts). with_sock s t m) same ∙ ap (λ (socks : List SockParts). record m { socks = socks }) (set_same m.socks s before at)

-- ---- the whole

module _ (m : WorldParts) (s : ℕ) (step : Step) (h : IsWorld m) (is : IsTransfer s (meant m) step) where
  -- if the socket doesn't exist, the step is refused
  pub no_socket : length m.core.locks.items ≤ s → outcome (meant m) step ≡ Err NoSuchSocket
  no_socket past =
      transfer_nowhere (meant m) s step is
      (socket_past m.core.locks.items m.core.goroutines.semaphores m.socks s (slice_get_past m.core.locks.items s past))

  module _ (before : SockParts) (below : s < length m.core.locks.items) (at : slice_get m.socks s ≡ Some before) where
    lock_there : (lock : Lock) × (slice_get m.core.locks.items s ≡ Some lock)
    lock_there = get_within m.core.locks.items s below

    abbrev seen : Socket
    seen = socket_with m s lock_there.0

    -- if the socket exists, its buffers determine the outcome
    at_buffers : outcome (meant m) step ≡ lifted s seen (meant m) (sock.outcome before step)
    at_buffers =
        transfer_leads (meant m) s seen step is (socket_at m.core.locks.items m.core.goroutines.semaphores m.socks s lock_there.0 lock_there.1)
        ∙ ap (λ (t : SockParts). lifted s seen (meant m) (sock.outcome t step)) (sock_seen m s lock_there.0 before h.parts lock_there.1 at)

    pub buffers_refused : (e : Refusal) → sock.sock_reason before step ≡ Some e → outcome (meant m) step ≡ Err e
    buffers_refused e why = at_buffers ∙ ap (lifted s seen (meant m)) (refused_for (sock.outcome before step) e why)

    no_reason : (o : sock.Outcome) → sock.refusal_of o ≡ None → refusal_of (lifted s seen (meant m) o) ≡ None
    no_reason (Ok left) why = refl
    no_reason (Err reason) why = cc

    -- If the buffers refuse the step, the world refuses it for the same reason. The reason may be lack
    -- of memory for the bytes that the step removes.
    pub transfer_refused : (keeps : Bool) (e : Refusal) → keeps ≡ true → Refuses sock.sock_reason sock.TakesMemory before step e
        → Refuses parts_reason (λ (k : WorldParts) (op : Step). (keeps ≡ true) × TakesMemory k op) m step e
    transfer_refused keeps e is_kept (inl why) = inl (ap refusal_of (buffers_refused e why))
    transfer_refused keeps e is_kept (inr none) =
        let loses : SockLoses before step = memory_is_for_bytes before step none.2 none.1 in
        inr (
          none.0,
          ap refusal_of at_buffers ∙ no_reason (sock.outcome before step) none.1,
          (
            is_kept,
            record {
              answer = loses.answer;
              next = with_socket s (put_back loses.next.opened seen) (meant m);
              applies = at_buffers ∙ ap (lifted s seen (meant m)) loses.applies;
              loses = loses.loses;
            },
          ),
        )

    module _ (after : SockParts) (answer : Answer) (leads : sock.StepTo before step answer after) where
      stays : (after.limit ≡ before.limit) × (is_opened after.opened ≡ true)
      stays = (leaves_open before step).value (answer, after) leads

      -- if the buffers carry out the step, so does the world
      pub transfer_advanced : Advanced (outcome (meant m) step) (asked_of m step) m answer (with_sock s after m)
      transfer_advanced =
          let was : SockFits m.core s before = h.parts.socks s before at in
          record {
            leads = at_buffers ∙ ap (lifted s seen (meant m)) leads
                ∙ ap (λ (w : World). Ok (answer, w)) (sym (sock_means m s lock_there.0 after lock_there.1 (slice_get_within m.socks s before at) stays.1));
            parts = sock_fits m s before after h.parts at
                (record {
                  limit = stays.0 ∙ was.limit;
                  opened = λ _. stays.1;
                  closed = λ past. absurd (omega (arith, below, past));
                });
            timers = subst (λ asked. TimersMade asked m.core.timers m.core.timers) (sym (asks_nothing m s step is)) refl;
          }

      -- undoing the delta of the buffers undoes the step
      pub transfer_undoes : (delta : SockDelta) → sock_delta.LeadsBack delta after before → sock_delta.delta_weight delta ≤ 3 + (bytes_left step answer + 7) / 8
          → LeadsBackWithin (MOST_WORDS + (bytes_left step answer + 7) / 8) (with_sock s after m) m (Sock s delta)
      transfer_undoes delta back light = (sock_back m s delta before after at back, omega (arith, light))

    -- the outcome of the step if no delta is kept
    pub transfer_advances : {Place : Type 0} (keeps : Bool) (holds : Place → WorldUndo → Type 0) (place : Place) → keeps ≡ false → (after : SockParts) (r : Result Answer Refusal)
        → IfOk r (λ answer. sock.StepTo before step answer after) → IfErr r (λ e. sock.sock_reason before step ≡ Some e) → OnErr r (after ≡ before)
        → MakesStep keeps holds place step m r (with_sock s after m)
    transfer_advances {Place} keeps holds place none after (Ok answer) leads why same =
        (transfer_advanced after answer leads, λ is_kept. absurd (never is_kept none))
      where
        never : {b : Bool} → b ≡ true → b ≡ false → ⊥
        never t f = cc
    transfer_advances {Place} keeps holds place none after (Err e) leads why same = (
      inl (ap refusal_of (buffers_refused e why)),
      sock_same m s before after at same,
    )
