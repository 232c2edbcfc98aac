-- Changing a socket, alone or with a goroutine's status, keeps a world well formed.
use Rattle.std.proofs.Common.{◌≡◌, ℕ, List, Some, ap, ◌∙◌, length, length-set, refl, inl, inr, sym, ◌≢◌, set}
use Rattle.std.proofs.lemmas.Option.{same_Some}
use Rattle.std.specs.Prelude.{slice_get, ◌==◌, count_by}
use Rattle.nr_rev.specs.declared.sides.Side.{Side}
use Rattle.nr_rev.specs.declared.status.Status.{Status}
use Rattle.nr_rev.specs.Sides.{of_side}
use Rattle.nr_rev.specs.World.{World, with_status, with_socket}
use Rattle.nr_rev.specs.Socket.{Socket}
use Rattle.nr_rev.specs.WellFormed.{WellFormed, SocketFits, GoroutinesFit, WaitWordsFit, parked_of, awaiting_of, is_queued}
use Rattle.nr_rev.specs.Lock.{bit}
use Rattle.nr_laws.proofs.StatusSetLemmas.{MayMove, GoroutinesFit-moved}
use Rattle.nr_rev.proofs.ListUpdateLemmas.{slice_get-set_cases, slice_get-set_unseen, slice_get-set_all}
use Rattle.std.specs.Option.{option_and_then}
use Rattle.nr_laws.proofs.StatusViewLemmas.{WaitWordsFit-same}

-- a socket and statuses of goroutines change together, and the socket's queues match the statuses
socket_keeps : (w : World) (gs : List Status) (s : ℕ) (old new : Socket) → WellFormed w → slice_get w.sockets s ≡ Some old → length gs ≡ length w.goroutines
    → GoroutinesFit gs w.sockets w.descriptors w.free → WaitWordsFit gs w.descriptors w.waiters
    → ((k t : ℕ) (side : Side) → t ≢ s → is_queued t side (slice_get gs k) ≡ is_queued t side (slice_get w.goroutines k))
    → ((k : ℕ) (side : Side) → count_by (λ h. h == k) (of_side side new.semaphores).queue ≡ bit (is_queued s side (slice_get gs k))) → SocketFits w.limits.buffer new
    → WellFormed (record w { goroutines = gs; sockets = set w.sockets s new })
socket_keeps w gs s old new h at as_many goroutines words elsewhere counts fits =
    record {
      goroutines =
          record {
            one_inside = goroutines.one_inside;
            inside_open = goroutines.inside_open;
            sockets_named = λ g k p. rw length-set (goroutines.sockets_named g k p);
            owed = goroutines.owed;
          };
      words = words;
      queues =
          record {
            queued = λ k t side socket is.
                elim (slice_get-set_cases w.sockets s old new t at) [
                  | inl here ↦
                      ap (λ (x : Socket). count_by (λ h. h == k) (of_side side x.semaphores).queue) (sym (same_Some new socket (sym here.1 ∙ is)))
                      ∙ counts k side
                      ∙ ap (λ n. bit (is_queued n side (slice_get gs k))) (sym here.0)
                  | inr apart ↦ h.queues.queued k t side socket (sym apart.1 ∙ is) ∙ sym (ap bit (elsewhere k t side apart.0))
                ];
          };
      timers = h.timers;
      free = h.free;
      sockets = slice_get-set_all (SocketFits w.limits.buffer) w.sockets s old new at fits h.sockets;
      goroutines_limited = rw as_many h.goroutines_limited;
      sockets_limited = rw length-set h.sockets_limited;
      descriptors_limited = h.descriptors_limited;
      firings_limited = h.firings_limited;
      clock = h.clock;
    }

-- a socket changes, but not its queues
pub socket_set_keeps : (w : World) (s : ℕ) (old new : Socket) → WellFormed w → slice_get w.sockets s ≡ Some old
    → ((side : Side) → (of_side side new.semaphores).queue ≡ (of_side side old.semaphores).queue) → SocketFits w.limits.buffer new → WellFormed (with_socket s new w)
socket_set_keeps w s old new h at same fits =
    socket_keeps w w.goroutines s old new h at refl h.goroutines h.words (λ k t side apart. refl)
    (λ k side. ap (count_by (λ h. h == k)) (same side) ∙ h.queues.queued k s side old at) fits

-- a socket's semaphores and a goroutine's status change, and the queues match the new status
pub queues_set_keeps : (w : World) (g s : ℕ) (old new : Status) (socket socket' : Socket) → WellFormed w → slice_get w.goroutines g ≡ Some old → slice_get w.sockets s ≡ Some socket
    → MayMove w.goroutines w.sockets w.descriptors w.free g new → parked_of new ≡ parked_of old → awaiting_of new ≡ awaiting_of old
    → ((k : ℕ) (side : Side) → k ≢ s → is_queued k side (Some new) ≡ is_queued k side (Some old))
    → ((k : ℕ) (side : Side) → count_by (λ h. h == k) (of_side side socket'.semaphores).queue ≡ bit (is_queued s side (slice_get (set w.goroutines g new) k))) → SocketFits w.limits.buffer socket'
    → WellFormed (with_status g new (with_socket s socket' w))
queues_set_keeps w g s old new socket socket' h at there may parked awaits elsewhere counts fits =
    socket_keeps w (set w.goroutines g new) s socket socket' h there (length-set _ g _)
    (GoroutinesFit-moved _ w.sockets w.descriptors w.free g old new at may h.goroutines)
    (WaitWordsFit-same w.goroutines _ w.descriptors w.waiters
    (λ k. slice_get-set_unseen (option_and_then parked_of) w.goroutines g old new k at parked)
    (λ k. slice_get-set_unseen (option_and_then awaiting_of) w.goroutines g old new k at awaits)
    h.words)
    (λ k t side apart. slice_get-set_unseen (is_queued t side) w.goroutines g old new k at (elsewhere t side apart))
    counts fits
