-- A semaphore's queue has room for a goroutine that acquires the semaphore.
use Rattle.std.proofs.Common.{◌≡◌, ℕ, ◌<◌, ◌≤◌, Bool, true, false, List, length, Option, Some, None, refl, sym, ap, ◌∙◌, subst, arith}
use Rattle.std.proofs.lemmas.Option.{slice_get_within}
use Rattle.std.specs.Prelude.{Err, IfOk, IfSome, Ok, Result, slice_get}
use Rattle.nr_rev.specs.declared.refusal.Refusal.{Refusal}
use Rattle.nr_rev.specs.declared.sides.Side.{Side}
use Rattle.nr_rev.specs.declared.status.Status.{Status}
use Rattle.nr_rev.specs.declared.status.Status.TheVariants.{Acquiring}
use Rattle.nr_rev.specs.Lock.{bit}
use Rattle.nr_rev.specs.Refusing.{◌>>=◌}
use Rattle.nr_rev.specs.Sides.{of_side}
use Rattle.nr_rev.specs.Socket.{Socket}
use Rattle.nr_rev.specs.Step.{acquiring_of, alive}
use Rattle.nr_rev.specs.WellFormed.{WellFormed, is_queued}
use Rattle.nr_rev.specs.World.{World}
use Rattle.nr_laws.proofs.DistinctNumberLemmas.{room_for, times}
use Rattle.nr_plain.specs.Reads.{acquiring_by}

queued_there : (gs : List Status) (s : ℕ) (side : Side) (k : ℕ) → 0 < bit (is_queued s side (slice_get gs k)) → k < length gs
queued_there gs s side k h =
    (elim (slice_get gs k) as (λ (o : Option Status). slice_get gs k ≡ o → 0 < bit (is_queued s side o) → k < length gs) [
      | None ↦ λ e z. absurd (omega (arith, z))
      | Some status ↦ λ e z. slice_get_within gs k status e
    ]) refl h

bit_le : (b : Bool) → bit b ≤ 1
bit_le true = omega arith
bit_le false = omega arith

-- a semaphore's queue has room for a goroutine with the status Acquiring
pub queue_has_room : (w : World) (g s : ℕ) (side : Side) (socket : Socket) → WellFormed w → slice_get w.goroutines g ≡ Some (Acquiring s side) → slice_get w.sockets s ≡ Some socket
    → length (of_side side socket.semaphores).queue < w.limits.goroutines
queue_has_room w g s side socket h at there =
    let queue = (of_side side socket.semaphores).queue in
    let is : (k : ℕ) → times k queue ≡ bit (is_queued s side (slice_get w.goroutines k)) = λ k. h.queues.queued k s side socket there in
    let room : length queue < length w.goroutines =
    room_for queue (length w.goroutines) g
    (λ k. let here = is k in let most = bit_le (is_queued s side (slice_get w.goroutines k)) in omega (arith, here, most))
    (λ k some. queued_there w.goroutines s side k (subst (λ n. 0 < n) (is k) some))
    (is g ∙ ap (λ o. bit (is_queued s side o)) at)
    (slice_get_within w.goroutines g (Acquiring s side) at) in
    let most = h.goroutines_limited in
    omega (arith, room, most)

module _ (w : World) (g : ℕ) (p : ℕ × Side) (h : WellFormed w) where
  by_socket : slice_get w.goroutines g ≡ Some (Acquiring p.0 p.1) → (o : Option Socket) → slice_get w.sockets p.0 ≡ o
      → IfSome o (λ (socket : Socket). length (of_side p.1 socket.semaphores).queue < w.limits.goroutines)
  by_socket at None there = tt
  by_socket at (Some socket) there = queue_has_room w g p.0 p.1 socket h at there

  by_status : (o : Option Status) → slice_get w.goroutines g ≡ o → (alive o >>= acquiring_of) ≡ Ok p
      → IfSome (slice_get w.sockets p.0) (λ (socket : Socket). length (of_side p.1 socket.semaphores).queue < w.limits.goroutines)
  by_status None at e = absurd cc
  by_status (Some (Acquiring s side)) at e =
      let same : (s, side) ≡ p = cc in
      by_socket (at ∙ ap (λ (q : ℕ × Side). Some (Acquiring q.0 q.1)) same) (slice_get w.sockets p.0) refl
  by_status (Some _) at e = absurd cc

-- if a goroutine acquires a semaphore, its queue has room
pub acquiring_has_room : (w : World) (g : ℕ) → WellFormed w → (r : Result (ℕ × Side) Refusal) → r ≡ acquiring_by g w
    → IfOk r (λ p. IfSome (slice_get w.sockets p.0) (λ (socket : Socket). length (of_side p.1 socket.semaphores).queue < w.limits.goroutines))
acquiring_has_room w g h (Ok p) e = by_status w g p h (slice_get w.goroutines g) refl (sym e)
acquiring_has_room w g h (Err reason) e = tt
