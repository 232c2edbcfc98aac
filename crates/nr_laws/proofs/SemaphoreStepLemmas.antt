-- acquire and release keep a world well formed.
use Rattle.std.proofs.Common.{◌≡◌, ◌≢◌, ℕ, ◌+◌, ◌-◌, ◌^◌, ◌<◌, Bool, true, false, ◌&&◌, List, [], ◌∷◌, ◌++◌, Option, Some, None, Ok, inl, inr, refl, sym, ap, subst, ◌∙◌, set, length, length-set, arith, drop}
use Rattle.std.proofs.lemmas.Option.{same_Some, none-some, slice_get_within}
use Rattle.std.specs.Prelude.{slice_get, if◌then◌else◌, ◌==◌, nat_lt, count_by}
use Rattle.std.specs.Option.{option_and_then}
use Rattle.nr_rev.specs.declared.sides.Side.{Side}
use Rattle.nr_rev.specs.declared.sides.Side.TheVariants.{Read, Write}
use Rattle.nr_rev.specs.declared.status.Status.{Status}
use Rattle.nr_rev.specs.declared.status.Status.TheVariants.{Acquiring, Queued, Relock, Owing}
use Rattle.nr_rev.specs.declared.answer.Answer.{Answer}
use Rattle.nr_rev.specs.Sides.{of_side, with_side, same_side}
use Rattle.nr_rev.specs.World.{World, wait_of, with_status, with_socket}
use Rattle.nr_rev.specs.Socket.{Socket}
use Rattle.nr_rev.specs.WellFormed.{WellFormed, SocketFits, IsField, socket_named, owed_of, is_queued}
use Rattle.nr_rev.proofs.ListUpdateLemmas.{slice_get-set_cases}
use Rattle.nr_rev.proofs.SideLemmas.{each_side, with_side_all}
use Rattle.nr_laws.proofs.BoolLemmas.{both_true, and_true, and_false}
use Rattle.nr_laws.proofs.LookupLemmas.{Ends-status_of, Ends-socket_of, Ends-acquiring_of, Ends-owing_of}
use Rattle.nr_laws.proofs.StatusSetLemmas.{MayMove, moved_outside, comes_to_owe}
use Rattle.nr_rev.specs.Lock.{bit}
use Rattle.nr_rev.specs.Semaphore.{Semaphore, is_free, front_of, released}
use Rattle.nr_rev.specs.Step.{acquire, release, with_semaphore, tries_again}
use Rattle.nr_laws.proofs.SocketSetLemmas.{socket_set_keeps, queues_set_keeps}
use Rattle.nr_rev.proofs.NumberLemmas.{below_of, lowered, same_number, count_push, count_front, number_same, number_apart}
use Rattle.nr_rev.proofs.OutcomeLemmas.{Ends, Keeps, Ends-ok, Ends-bind, Ends-then, Ends-refused_unless}

may_name : (w : World) (g s : ℕ) (new : Status) → s < length w.sockets → wait_of new ≡ None → socket_named new ≡ Some s → owed_of new ≡ None → MayMove w.goroutines w.sockets w.descriptors w.free g new
may_name w g s new within none named owes_none =
    record {
      is_open = λ d side e. absurd (none-some _ (sym none ∙ e));
      alone = λ d side k e apart inside. absurd (none-some _ (sym none ∙ e));
      named = λ k e. subst (λ (n : ℕ). n < length w.sockets) (same_Some _ _ (sym named ∙ e)) within;
      owes = λ reads writes e. absurd (none-some _ (sym owes_none ∙ e));
    }

-- the socket with a new semaphore on a side
abbrev with_new_semaphore : Side → Socket → Semaphore → Socket
with_new_semaphore side socket semaphore = record socket { semaphores = with_side side semaphore socket.semaphores }

semaphore_fits : (limit : ℕ) (side : Side) (socket : Socket) (semaphore : Semaphore) → semaphore.count < 2 ^ 32 → SocketFits limit socket → SocketFits limit (with_new_semaphore side socket semaphore)
semaphore_fits limit side socket semaphore small h =
    record {
      lock = h.lock;
      counts = with_side_all (λ (x : Semaphore). x.count < 2 ^ 32) side semaphore socket.semaphores small h.counts;
      bytes = h.bytes;
      capacities = h.capacities;
    }

queue_kept : (side s : Side) (socket : Socket) (semaphore : Semaphore) → semaphore.queue ≡ (of_side side socket.semaphores).queue
    → (of_side s (with_new_semaphore side socket semaphore).semaphores).queue ≡ (of_side s socket.semaphores).queue
queue_kept Read Read socket semaphore e = e
queue_kept Read Write socket semaphore e = refl
queue_kept Write Read socket semaphore e = refl
queue_kept Write Write socket semaphore e = e

queue_pushed : (side s : Side) (g k : ℕ) (socket : Socket)
    → count_by (λ h. h == k) (of_side s (with_new_semaphore side socket (record (of_side side socket.semaphores) { queue = (of_side side socket.semaphores).queue ++ g ∷ [] })).semaphores).queue
    ≡ count_by (λ h. h == k) (of_side s socket.semaphores).queue + bit (same_side s side && (g == k))
queue_pushed Read Read g k socket = count_push g k socket.semaphores.read.queue
queue_pushed Read Write g k socket = omega arith
queue_pushed Write Read g k socket = omega arith
queue_pushed Write Write g k socket = count_push g k socket.semaphores.write.queue

queue_popped : (side s : Side) (f k count : ℕ) (q : List ℕ) (socket : Socket) → (of_side side socket.semaphores).queue ≡ f ∷ q
    → count_by (λ h. h == k) (of_side s socket.semaphores).queue ≡ count_by (λ h. h == k) (of_side s (with_new_semaphore side socket (record { count = count; queue = q })).semaphores).queue
    + bit (same_side s side && (f == k))
queue_popped Read Read f k count q socket e = let a = ap (count_by (λ h. h == k)) e in let b = count_front f k q in omega arith
queue_popped Read Write f k count q socket e = omega arith
queue_popped Write Read f k count q socket e = omega arith
queue_popped Write Write f k count q socket e = let a = ap (count_by (λ h. h == k)) e in let b = count_front f k q in omega arith

-- how a change of g's status affects the bit that a view has for goroutine k
pub bits_moved : (view : Option Status → Bool) (gs : List Status) (g k : ℕ) (from to : Status) → slice_get gs g ≡ Some from
    → bit (view (slice_get (set gs g to) k)) + bit (view (Some from) && (g == k)) ≡ bit (view (slice_get gs k)) + bit (view (Some to) && (g == k))
bits_moved view gs g k from to at =
    elim (slice_get-set_cases gs g from to k at) [
      | inl here ↦
          let a : bit (view (slice_get (set gs g to) k)) ≡ bit (view (Some to)) = ap (λ o. bit (view o)) here.1 in
          let b : bit (view (slice_get gs k)) ≡ bit (view (Some from)) = ap (λ o. bit (view o)) (ap (slice_get gs) here.0 ∙ at) in
          let same : (g == k) ≡ true = ap (λ n. g == n) here.0 ∙ number_same g in
          let c : bit (view (Some from) && (g == k)) ≡ bit (view (Some from)) = ap bit (ap (λ b. view (Some from) && b) same ∙ and_true _) in
          let d : bit (view (Some to) && (g == k)) ≡ bit (view (Some to)) = ap bit (ap (λ b. view (Some to) && b) same ∙ and_true _) in
          omega arith
      | inr there ↦
          let a : bit (view (slice_get (set gs g to) k)) ≡ bit (view (slice_get gs k)) = ap (λ o. bit (view o)) there.1 in
          let apart : (g == k) ≡ false = number_apart g k (λ e. there.0 (sym e)) in
          let c : bit (view (Some from) && (g == k)) ≡ 0 = ap bit (ap (λ b. view (Some from) && b) apart ∙ and_false _) in
          let d : bit (view (Some to) && (g == k)) ≡ 0 = ap bit (ap (λ b. view (Some to) && b) apart ∙ and_false _) in
          omega arith
    ]

queued_here : (s : ℕ) (side other : Side) → is_queued s other (Some (Queued s side)) ≡ same_side other side
queued_here s side other = ap (λ b. b && same_side other side) (number_same s)

queued_there : (s k : ℕ) (side other : Side) → k ≢ s → is_queued k other (Some (Queued s side)) ≡ false
queued_there s k side other apart = ap (λ b. b && same_side other side) (number_apart k s apart)

queues : (w : World) (g s : ℕ) (side : Side) (socket : Socket) → WellFormed w → slice_get w.goroutines g ≡ Some (Acquiring s side) → slice_get w.sockets s ≡ Some socket
    → WellFormed
    (with_status g (Queued s side) (with_socket s (with_new_semaphore side socket (record (of_side side socket.semaphores) { queue = (of_side side socket.semaphores).queue ++ g ∷ [] })) w))
queues w g s side socket h at there =
    queues_set_keeps w g s (Acquiring s side) (Queued s side) socket _ h at there (may_name w g s (Queued s side) (slice_get_within _ _ _ there) refl refl refl) refl refl
    (λ k other apart. queued_there s k side other apart)
    (λ k other.
    let a = queue_pushed side other g k socket in
    let b : count_by (λ h. h == k) (of_side other socket.semaphores).queue ≡ bit (is_queued s other (slice_get w.goroutines k)) = h.queues.queued k s other socket there in
    let c = bits_moved (is_queued s other) w.goroutines g k (Acquiring s side) (Queued s side) at in
    let d : bit (is_queued s other (Some (Queued s side)) && (g == k)) ≡ bit (same_side other side && (g == k)) = ap (λ x. bit (x && (g == k))) (queued_here s side other) in
    omega arith)
    (semaphore_fits _ side socket _ ((h.sockets s socket there).counts side) (h.sockets s socket there))

goes_on : (w : World) (g s : ℕ) (side : Side) (socket : Socket) → WellFormed w → slice_get w.goroutines g ≡ Some (Acquiring s side) → slice_get w.sockets s ≡ Some socket
    → WellFormed (with_status g (Relock s side) (with_socket s (with_new_semaphore side socket (record (of_side side socket.semaphores) { count = (of_side side socket.semaphores).count - 1 })) w))
goes_on w g s side socket h at there =
    let small : (of_side side socket.semaphores).count < 2 ^ 32 = (h.sockets s socket there).counts side in
    let less : (of_side side socket.semaphores).count - 1 < 2 ^ 32 = omega arith in
    moved_outside _ g (Acquiring s side) (Relock s side)
    (socket_set_keeps w s socket _ h there (λ other. queue_kept side other socket _ refl) (semaphore_fits _ side socket _ less (h.sockets s socket there)))
    at refl refl
    (λ k e. rw length-set (subst (λ (n : ℕ). n < length w.sockets) (same_Some _ _ e) (slice_get_within _ _ _ there)))
    (λ reads writes e. cc)

-- the semaphore after an acquire, whether it was free or not
abbrev taken : Bool → ℕ → Semaphore → Semaphore
taken free g semaphore = if free then record semaphore { count = semaphore.count - 1 } else record semaphore { queue = semaphore.queue ++ g ∷ [] }

acquires : (w : World) (g s : ℕ) (side : Side) (socket : Socket) (free : Bool) → WellFormed w → slice_get w.goroutines g ≡ Some (Acquiring s side) → slice_get w.sockets s ≡ Some socket
    → Keeps (Ok (if free then (Answer.Yes, with_status g (Relock s side) (with_semaphore s side socket (taken free g (of_side side socket.semaphores)) w))
    else (Answer.Wait, with_status g (Queued s side) (with_semaphore s side socket (taken free g (of_side side socket.semaphores)) w))))
acquires w g s side socket true h at there = Ends-ok (goes_on w g s side socket h at there)
acquires w g s side socket false h at there = Ends-ok (queues w g s side socket h at there)

-- if a queue contains exactly the queued goroutines, the first of them is queued
pub front_queued : (gs : List Status) (s f : ℕ) (side : Side) (q : List ℕ) → ((g : ℕ) → count_by (λ h. h == g) (f ∷ q) ≡ bit (is_queued s side (slice_get gs g)))
    → slice_get gs f ≡ Some (Queued s side)
front_queued gs s f side q queued = go (slice_get gs f) refl
  where
    same_sides : (a b : Side) → same_side a b ≡ true → b ≡ a
    same_sides Read Read e = refl
    same_sides Read Write e = cc
    same_sides Write Read e = cc
    same_sides Write Write e = refl

    shows : bit (is_queued s side (slice_get gs f)) ≡ 1 + count_by (λ h. h == f) q
    shows =
        let a : count_by (λ h. h == f) (f ∷ q) ≡ bit (is_queued s side (slice_get gs f)) = queued f in
        let c = count_front f f q in
        let d : bit (f == f) ≡ 1 = ap bit (number_same f) in
        omega arith

    is_it : (status : Status) → bit (is_queued s side (Some status)) ≡ 1 + count_by (λ h. h == f) q → status ≡ Queued s side
    is_it (Queued k other) e = both ((s == k) && same_side side other) refl e
      where
        both : (b : Bool) → ((s == k) && same_side side other) ≡ b → bit b ≡ 1 + count_by (λ h. h == f) q → Queued k other ≡ Queued s side
        both true t n = let p = both_true _ _ t in ap (λ x. Queued x other) (sym (same_number s k p.0)) ∙ ap (Queued s) (same_sides side other p.1)
        both false t n = absurd (omega arith)
    is_it _ e = absurd (omega arith)

    go : (o : Option Status) → slice_get gs f ≡ o → slice_get gs f ≡ Some (Queued s side)
    go None at = let a : bit (is_queued s side (slice_get gs f)) ≡ 0 = ap (λ o. bit (is_queued s side o)) at in let b = shows in absurd (omega arith)
    go (Some status) at = at ∙ ap Some (is_it status (sym (ap (λ o. bit (is_queued s side o)) at) ∙ shows))

-- true if `next` is well formed, has as many sockets as `w`, and keeps the releases that goroutines
-- owe in `w`
pub record Released (w next : World) : Type 0 where
  pub fits : WellFormed next
  pub sockets : length next.sockets ≡ length w.sockets
  pub owes : (g s reads writes : ℕ) → slice_get w.goroutines g ≡ Some (Owing s reads writes) → slice_get next.goroutines g ≡ Some (Owing s reads writes)

releases : (w : World) (s : ℕ) (side : Side) (socket : Socket) → WellFormed w → slice_get w.sockets s ≡ Some socket
    → Ends (λ left. Released w (tries_again s side (front_of (of_side side socket.semaphores)) (with_semaphore s side socket left w))) (released (of_side side socket.semaphores))
releases w s side socket h there =
    Ends-then (Ends-refused_unless (nat_lt (of_side side socket.semaphores).count (2 ^ 32 - 1)) _ refl) λ is_below.
    let below : (of_side side socket.semaphores).count < 2 ^ 32 - 1 = below_of _ _ is_below in
    Ends-ok (go (of_side side socket.semaphores).queue refl (omega arith))
  where
    go : (q : List ℕ) → (of_side side socket.semaphores).queue ≡ q → (of_side side socket.semaphores).count + 1 < 2 ^ 32
        → Released w
        (tries_again s side (slice_get (of_side side socket.semaphores).queue 0)
        (with_semaphore s side socket (record { count = (of_side side socket.semaphores).count + 1; queue = drop 1 (of_side side socket.semaphores).queue }) w))
    go [] is small =
        subst (λ (q : List ℕ). Released w (tries_again s side (slice_get q 0) (with_semaphore s side socket (record { count = (of_side side socket.semaphores).count + 1; queue = drop 1 q }) w)))
        (sym is)
        (record {
          fits = socket_set_keeps w s socket _ h there (λ other. queue_kept side other socket _ (sym is)) (semaphore_fits _ side socket _ small (h.sockets s socket there));
          sockets = length-set _ s _;
          owes = λ g k reads writes at. at;
        })
    go (f ∷ q) is small =
        let at : slice_get w.goroutines f ≡ Some (Queued s side) = front_queued w.goroutines s f side q (λ g. sym (ap (count_by (λ h. h == g)) is) ∙ h.queues.queued g s side socket there) in
        subst (λ (q : List ℕ). Released w (tries_again s side (slice_get q 0) (with_semaphore s side socket (record { count = (of_side side socket.semaphores).count + 1; queue = drop 1 q }) w)))
        (sym is)
        (record {
          fits =
              queues_set_keeps w f s (Queued s side) (Acquiring s side) socket _ h at there (may_name w f s (Acquiring s side) (slice_get_within _ _ _ there) refl refl refl) refl refl
              (λ k other apart. sym (queued_there s k side other apart))
              (λ k other.
              let a = queue_popped side other f k ((of_side side socket.semaphores).count + 1) q socket is in
              let b : count_by (λ h. h == k) (of_side other socket.semaphores).queue ≡ bit (is_queued s other (slice_get w.goroutines k)) = h.queues.queued k s other socket there in
              let c = bits_moved (is_queued s other) w.goroutines f k (Queued s side) (Acquiring s side) at in
              let d : bit (is_queued s other (Some (Queued s side)) && (f == k)) ≡ bit (same_side other side && (f == k)) = ap (λ x. bit (x && (f == k))) (queued_here s side other) in
              omega arith)
              (semaphore_fits _ side socket _ small (h.sockets s socket there));
          sockets = length-set _ s _;
          owes = λ g k reads writes owing_at.
              elim (slice_get-set_cases w.goroutines f (Queued s side) (Acquiring s side) g at) [
                | inl here ↦ let was : slice_get w.goroutines g ≡ Some (Queued s side) = ap (slice_get w.goroutines) here.0 ∙ at in cc
                | inr apart ↦ apart.1 ∙ owing_at
              ];
        })

pub acquire_sound : (w : World) (g : ℕ) → WellFormed w → Keeps (acquire g w)
acquire_sound w g h =
    Ends-bind (Ends-status_of g w) λ status at.
    Ends-bind (Ends-acquiring_of status) λ place is.
    Ends-bind (Ends-socket_of place.0 w) λ socket there.
    acquires w g place.0 place.1 socket (is_free (of_side place.1 socket.semaphores)) h (at ∙ ap Some is) there

pub release_sound : (w : World) (g : ℕ) → WellFormed w → Keeps (release g w)
release_sound w g h =
    Ends-bind (Ends-status_of g w) λ status status_at.
    Ends-bind (Ends-owing_of status) λ debt is.
    Ends-bind (Ends-socket_of debt.0 w) λ socket there.
    Ends-bind (releases w debt.0 (if nat_lt 0 debt.1.read then Read else Write) socket h there) λ left r.
    let at : slice_get w.goroutines g ≡ Some (Owing debt.0 debt.1.read debt.1.write) = status_at ∙ ap Some is in
    let owed = h.goroutines.owed g debt.1.read debt.1.write (ap (option_and_then owed_of) at) in
    let small : (s : Side) → IsField (of_side s debt.1) = each_side _ owed.0 owed.1 in
    Ends-ok
    (comes_to_owe _ g debt.0 (Owing debt.0 debt.1.read debt.1.write) _ r.fits (r.owes g debt.0 debt.1.read debt.1.write at)
    refl (rw r.sockets (slice_get_within _ _ _ there))
    (with_side_all IsField (if nat_lt 0 debt.1.read then Read else Write) _ debt.1 (lowered _ (small (if nat_lt 0 debt.1.read then Read else Write))) small))
