-- Opening a socket has the same outcome in the parts and in the machine.
use Rattle.std.proofs.Common.{◌≡◌, inl, inr, ℕ, ◌+◌, ◌-◌, ◌/◌, ◌<◌, ◌≤◌, true, false, List, [], ◌∷◌, ◌++◌, get_or, length, set, Option, Some, None, Ok, Err, refl, sym, ap, subst, ◌∙◌, arith, length-set}
use Rattle.std.proofs.lemmas.Bool.Decides.{nat_tests}
use Rattle.std.proofs.lemmas.List.{length-append}
use Rattle.std.proofs.lemmas.Option.{same_Some, slice_get_read}
use Rattle.std.specs.Prelude.{nat_lt, slice_get}
use Rattle.nr_rev.specs.declared.answer.Answer.{Answer}
use Rattle.nr_rev.specs.declared.answer.Answer.TheVariants.{Number}
use Rattle.nr_rev.specs.declared.lock.Lock.{Lock}
use Rattle.nr_rev.specs.declared.refusal.Refusal.{Refusal}
use Rattle.nr_rev.specs.declared.refusal.Refusal.TheVariants.{TableFull}
use Rattle.nr_rev.specs.declared.sides.Sides.{Sides}
use Rattle.nr_rev.specs.declared.step.Step.{Step}
use Rattle.nr_rev.specs.declared.step.Step.TheVariants.{SockOpen}
use Rattle.nr_rev.specs.Lock.{open_lock}
use Rattle.nr_rev.specs.Reversible.{Refuses}
use Rattle.nr_rev.specs.Semaphore.{Semaphore, new_semaphore}
use Rattle.nr_rev.specs.Sides.{of_side, twice}
use Rattle.nr_rev.specs.Socket.{Socket, new_socket}
use Rattle.nr_rev.specs.Step.{outcome}
use Rattle.nr_rev.specs.WellFormed.{IsField, LockFits}
use Rattle.nr_rev.specs.World.{World}
use Rattle.nr_rev.specs.Worlds.{bytes_left, refusal_of}
use Rattle.nr_rev.proofs.ListUpdateLemmas.{slice_get-push_all, slice_get-set_cases}
use Rattle.nr_rev.proofs.SideLemmas.{each_side}
use Rattle.nr_sockbuf.specs.Delta as sock_delta
use Rattle.nr_sockbuf.proofs.AgreementLemmas.{sockopen_agrees}
use Rattle.nr_sockbuf.specs.Laws.{leaves_open, refused_for}
use Rattle.nr_sockbuf.specs.Agreement.{lifted_opening, put_back}
use Rattle.nr_sockbuf.specs.Op as sock
use Rattle.nr_sockbuf.specs.Sock.{OpenSock, SockParts, is_opened, never_opened}
use Rattle.nr_sockbuf.specs.declared.delta.SockDelta.{SockDelta}
use Rattle.nr_machine.specs.declared.delta.TheConstants.{MOST_WORDS}
use Rattle.nr_machine.specs.declared.delta.WorldUndo.TheVariants.{Opened}
use Rattle.nr_machine.specs.declared.world_core.Core.{Core}
use Rattle.nr_machine.specs.Asked.{asked_of}
use Rattle.nr_machine.specs.Delta.{OpenedBack, SockBack}
use Rattle.nr_machine.specs.Fits.{CoreFits, IsWorld, PartsFit, SockFits}
use Rattle.nr_machine.specs.Made.{parts_reason}
use Rattle.nr_machine.specs.Auxiliary.Made.{Made}
use Rattle.nr_machine.specs.Sockets.{SocketRest, rest_at, socket_of}
use Rattle.nr_machine.specs.Transfers.{IsOpening}
use Rattle.nr_machine.specs.World.{WorldParts, meant}
use Rattle.nr_machine.proofs.FitsLemmas.{locks_fit}
use Rattle.nr_machine.proofs.ListLemmas.{get_within, without_last}
use Rattle.nr_machine.proofs.SocketsLemmas.{length-sockets_of, semaphores_at, socket_push}
use Rattle.nr_machine.proofs.TransferLemmas.{sock_back, with_sock}

-- the core with one more lock
abbrev pub with_lock_more : Core → Core
with_lock_more core = record core { locks = record core.locks { items = core.locks.items ++ open_lock ∷ [] } }

-- the parts with one more socket, which has these buffers
abbrev pub with_opening : SockParts → WorldParts → WorldParts
with_opening after m =
    record m { core = with_lock_more m.core; socks = set m.socks (length m.core.locks.items) after }

open_fits : LockFits open_lock
open_fits =
    let none : IsField 0 = omega arith in
    record { references = none; waiters = each_side (λ side. IsField (of_side side (twice 0))) none none }

length_more : (xs : List Lock) (x : Lock) → length (xs ++ x ∷ []) ≡ length xs + 1
length_more xs x = length-append xs (x ∷ [])

no_room : (w : World) (rc wc : ℕ) → nat_lt (length w.sockets) w.limits.sockets ≡ false → outcome w (SockOpen rc wc) ≡ Err TableFull
no_room w rc wc full = rw (full) refl

put_means : (rest : SocketRest) (o : Option OpenSock) → is_opened o ≡ true → rest.semaphores ≡ twice new_semaphore
    → socket_of open_lock (record rest { sock = o }) ≡ put_back o (new_socket 0 0)
put_means rest None is new = cc
put_means rest (Some opened) is new =
    ap (λ (both : Sides Semaphore). record { lock = open_lock; semaphores = both; buffers = opened.buffers; peer_closed = opened.peer_closed; shut = opened.shut }) new

module _ (m : WorldParts) (h : IsWorld m) where
  abbrev n : ℕ
  n = length m.core.locks.items

  many : length (meant m).sockets ≡ n
  many = length-sockets_of m.core.locks.items m.core.goroutines.semaphores m.socks

  -- if there is no room for a socket, the step is refused
  pub opening_full : (step : Step) → IsOpening step → m.core.limits.sockets ≤ n → outcome (meant m) step ≡ Err TableFull
  opening_full (SockOpen rc wc) is full = no_room (meant m) rc wc (let same = many in grind (arith, nat_tests))
  opening_full _ is full = absurd is

  next_below : n < m.core.limits.sockets → n < length m.socks
  next_below room = let made = h.parts.socks_made in omega (arith, made, room)

  -- the next socket's buffers are those that a read at its index returns
  pub next_found : (k : ℕ) (sock : SockParts) → k ≡ n → k < m.core.limits.sockets → sock ≡ get_or m.socks k sock → (n < m.core.limits.sockets) × (slice_get m.socks n ≡ Some sock)
  next_found k sock len within read =
      let room : n < m.core.limits.sockets = omega (arith, len, within) in
      (room, slice_get_read m.socks (length m.socks) n sock refl (next_below room) (subst (λ (j : ℕ). sock ≡ get_or m.socks j sock) len read))

  module _ (room : n < m.core.limits.sockets) (before : SockParts) (at : slice_get m.socks n ≡ Some before) where
    -- the next socket's buffers were never opened
    was_closed : before ≡ never_opened m.core.limits.buffer
    was_closed =
        let fits : SockFits m.core n before = h.parts.socks n before at in
        ap (λ (o : Option OpenSock). record { limit = before.limit; opened = o }) (fits.closed (omega arith))
        ∙ ap (λ (limit : ℕ). record { limit = limit; opened = None }) fits.limit

    at_buffers : (rc wc : ℕ) → outcome (meant m) (SockOpen rc wc) ≡ lifted_opening (meant m) (sock.outcome before (SockOpen rc wc))
    at_buffers rc wc =
        sockopen_agrees rc wc (meant m) (let same = many in grind (arith, nat_tests))
        ∙ ap (λ (t : SockParts). lifted_opening (meant m) (sock.outcome t (SockOpen rc wc))) (sym was_closed)

    takes_none : (o : Option OpenSock) (rc wc : ℕ) → 0 < sock.leaves o (SockOpen rc wc) → ⊥
    takes_none None rc wc some = omega (arith, some)
    takes_none (Some opened) rc wc some = omega (arith, some)

    -- if the buffers refuse the step, the world refuses it for the same reason
    pub opening_refused : (step : Step) (e : Refusal) → IsOpening step → Refuses sock.sock_reason sock.TakesMemory before step e → parts_reason m step ≡ Some e
    opening_refused (SockOpen rc wc) e is (inl why) =
        ap refusal_of (at_buffers rc wc ∙ ap (lifted_opening (meant m)) (refused_for (sock.outcome before (SockOpen rc wc)) e why))
    opening_refused (SockOpen rc wc) e is (inr none) = absurd (takes_none before.opened rc wc none.2)
    opening_refused _ e is why = absurd is

    module _ (after : SockParts) (opened : is_opened after.opened ≡ true) where
      semaphores_there : (both : Sides Semaphore) × (slice_get m.core.goroutines.semaphores n ≡ Some both)
      semaphores_there = get_within m.core.goroutines.semaphores n (let sockets = h.parts.core.semaphores in omega (arith, sockets, room))

      -- adding a socket to the parts adds it to the world
      opening_means : meant (with_opening after m) ≡ record (meant m) { sockets = (meant m).sockets ++ put_back after.opened (new_socket 0 0) ∷ [] }
      opening_means =
          let new : (rest_at m.core.goroutines.semaphores m.socks n).semaphores ≡ twice new_semaphore =
          semaphores_at m.core.goroutines.semaphores m.socks n semaphores_there.0 semaphores_there.1
          ∙ h.parts.unopened n semaphores_there.0 semaphores_there.1 (omega arith) in
          ap (λ (sockets : List Socket). record (meant m) { sockets = sockets })
          (socket_push m.core.locks.items m.core.goroutines.semaphores m.socks open_lock after (next_below room))
          ∙ ap (λ (socket : Socket). record (meant m) { sockets = (meant m).sockets ++ socket ∷ [] })
          (put_means (rest_at m.core.goroutines.semaphores m.socks n) after.opened opened new)

      core_fits : CoreFits (with_lock_more m.core)
      core_fits = locks_fit m.core (with_lock_more m.core).locks.items h.parts.core (slice_get-push_all LockFits m.core.locks.items open_lock open_fits h.parts.core.locks)

      sock_fits : after.limit ≡ before.limit → (k : ℕ) (x : SockParts) → slice_get (set m.socks n after) k ≡ Some x → SockFits (with_lock_more m.core) k x
      sock_fits limit k x is =
          let more : length (m.core.locks.items ++ open_lock ∷ []) ≡ n + 1 = length_more m.core.locks.items open_lock in
          elim (slice_get-set_cases m.socks n before after k at) [
            | inl here ↦ subst (λ (y : SockParts). SockFits (with_lock_more m.core) k y) (same_Some after x (sym here.1 ∙ is))
                (record {
                  limit = limit ∙ (h.parts.socks n before at).limit;
                  opened = λ _. opened;
                  closed = λ past. absurd (let same = here.0 in omega (arith, past, more, same));
                })
            | inr other ↦ let was : SockFits m.core k x = h.parts.socks k x (sym other.1 ∙ is) in
                record {
                  limit = was.limit;
                  opened = λ below. was.opened (by_other k other.0 (subst (λ (j : ℕ). k < j) more below));
                  closed = λ past. was.closed (let up = subst (λ (j : ℕ). j ≤ k) more past in omega (arith, up));
                }
          ]
        where
          by_other : (k : ℕ) → (k ≡ n → ⊥) → k < n + 1 → k < n
          by_other k apart below = omega arith

      opening_fits : after.limit ≡ before.limit → PartsFit (with_opening after m)
      opening_fits limit =
          let more : length (m.core.locks.items ++ open_lock ∷ []) ≡ n + 1 = length_more m.core.locks.items open_lock in
          record {
            core = core_fits;
            socks_made = length-set m.socks n after ∙ h.parts.socks_made;
            socks = sock_fits limit;
            unopened = λ s both is past. h.parts.unopened s both is (let up = subst (λ (j : ℕ). j ≤ s) more past in omega (arith, up));
            unarmed = h.parts.unarmed;
          }

      opening_back : (delta : SockDelta) → sock_delta.LeadsBack delta after before → OpenedBack delta (with_opening after m) m
      opening_back delta back =
          let last : length (m.core.locks.items ++ open_lock ∷ []) - 1 ≡ n = let more = length_more m.core.locks.items open_lock in omega (arith, more) in
          let mid : WorldParts = with_sock n after m in (
            mid,
            (ap (λ (items : List Lock). record m.core { locks = record m.core.locks { items = items } }) (without_last m.core.locks.items open_lock), refl),
            subst (λ (s : ℕ). SockBack s delta mid m) (sym last) (sock_back m n delta before after at back),
          )

    made_so : (rc wc : ℕ) (answer : Answer) (delta : SockDelta) (after : SockParts) → sock.StepTo before (SockOpen rc wc) answer after → sock_delta.LeadsBack delta after before
        → sock_delta.delta_weight delta ≤ 3 + (0 + 7) / 8
        → Made (outcome (meant m) (SockOpen rc wc)) [] (MOST_WORDS + (0 + 7) / 8) m (Number n) (Opened delta) (with_opening after m)
    made_so rc wc answer delta after leads back light =
        let leaves = (leaves_open before (SockOpen rc wc)).value (answer, after) leads in (
          record {
            leads = at_buffers rc wc ∙ ap (lifted_opening (meant m)) leads
                ∙ ap (λ (w : World). Ok (Number (length (meant m).sockets), w)) (sym (opening_means after leaves.1))
                ∙ ap (λ (k : ℕ). Ok (Number k, meant (with_opening after m))) many;
            parts = opening_fits after leaves.1 leaves.0;
            timers = refl;
          },
          (
            opening_back after leaves.1 delta back,
            omega (arith, light),
          ),
        )

    -- if the buffers carry out the step, so does the world
    pub opening_made : (step : Step) (answer : Answer) (delta : SockDelta) (after : SockParts) (k : ℕ) (core : Core) → IsOpening step → sock.StepTo before step answer after
        → sock_delta.LeadsBack delta after before → sock_delta.delta_weight delta ≤ 3 + (bytes_left step answer + 7) / 8 → k ≡ n → core ≡ with_lock_more m.core
        → Made (outcome (meant m) step) (asked_of m step) (MOST_WORDS + (bytes_left step (Number k) + 7) / 8) m (Number k) (Opened delta)
        (record m { core = core; socks = set m.socks k after })
    opening_made (SockOpen rc wc) answer delta after k core is leads back light same more =
        subst (λ (c : Core). Made (outcome (meant m) (SockOpen rc wc)) [] (MOST_WORDS + (0 + 7) / 8) m (Number k) (Opened delta) (record m { core = c; socks = set m.socks k after })) (sym more)
        (subst (λ (j : ℕ). Made (outcome (meant m) (SockOpen rc wc)) [] (MOST_WORDS + (0 + 7) / 8) m (Number j) (Opened delta)
        (record m { core = with_lock_more m.core; socks = set m.socks j after })) (sym same)
        (made_so rc wc answer delta after leads back light))
    opening_made _ answer delta after k core is leads back light same more = absurd is
