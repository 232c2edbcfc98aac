-- sockopen, arrive, peerclose, sysread, syswrite, drain and closewrite keep a world well formed.
use Rattle.std.proofs.Common.{◌≡◌, ◌≢◌, ℕ, ◌<◌, ◌≤◌, Bool, true, false, ◌&&◌, List, [], ◌∷◌, ◌++◌, Option, Some, None, inl, inr, refl, sym, ap, ◌∙◌, length, length-append, arith, min, take, drop}
use Rattle.std.specs.Prelude.{slice_get, ◌==◌, nat_lt, nat_le, count_by}
use Rattle.std.specs.Option.{option_and_then}
use Rattle.nr_rev.specs.declared.sides.Side.{Side}
use Rattle.nr_rev.specs.declared.sides.Side.TheVariants.{Read, Write}
use Rattle.nr_rev.specs.declared.status.Status.{Status}
use Rattle.nr_rev.specs.declared.status.Status.TheVariants.{Queued}
use Rattle.nr_rev.specs.Sides.{of_side, same_side}
use Rattle.nr_rev.specs.World.{World, with_socket}
use Rattle.nr_rev.specs.Socket.{Socket, Buffer, new_socket, room_of, output_room}
use Rattle.nr_rev.specs.WellFormed.{WellFormed, SocketFits, HasView, socket_named, is_queued}
use Rattle.nr_rev.proofs.ListUpdateLemmas.{slice_get-push_cases, slice_get-push_all}
use Rattle.nr_rev.proofs.SideLemmas.{each_side, with_side_all}
use Rattle.nr_rev.specs.Step.{sockopen, arrive, peerclose, sysread, syswrite, drain, closewrite, with_buffer}
use Rattle.nr_rev.proofs.NumberLemmas.{below_of, most_of, same_number}
use Rattle.nr_rev.specs.Lock.{bit}
use Rattle.std.proofs.lemmas.List.{length-drop, length-take}
use Rattle.nr_laws.proofs.SocketSetLemmas.{socket_set_keeps}
use Rattle.nr_laws.proofs.LookupLemmas.{Ends-idle, Ends-socket_of, Ends-sized}
use Rattle.nr_rev.proofs.OutcomeLemmas.{Keeps, Ends-ok, Ends-bind, Ends-then, Ends-refused_if, Ends-refused_unless}

named_queue : (s : ℕ) (side : Side) (status : Status) → socket_named status ≢ Some s → is_queued s side (Some status) ≡ false
named_queue s side (Queued k other) unnamed = go (s == k) refl
  where
    go : (b : Bool) → (s == k) ≡ b → (b && same_side side other) ≡ false
    go true e = absurd (unnamed (ap Some (sym (same_number s k e))))
    go false e = refl
named_queue s side _ unnamed = refl

-- no goroutine is queued at a socket that no status names
unqueued : (gs : List Status) (s : ℕ) (side : Side) (g : ℕ) → ((g : ℕ) → HasView socket_named gs g s → ⊥) → is_queued s side (slice_get gs g) ≡ false
unqueued gs s side g unnamed = go (slice_get gs g) refl
  where
    go : (o : Option Status) → slice_get gs g ≡ o → is_queued s side o ≡ false
    go None at = refl
    go (Some status) at = named_queue s side status (λ e. unnamed g (ap (option_and_then socket_named) at ∙ e))

new_fits : (limit rc wc : ℕ) → (0 < rc) × (rc ≤ limit) → (0 < wc) × (wc ≤ limit) → SocketFits limit (new_socket rc wc)
new_fits limit rc wc r c =
    record {
      lock = record { references = omega arith; waiters = each_side _ (omega arith) (omega arith) };
      counts = each_side _ (omega arith) (omega arith);
      bytes = each_side _ (omega arith) (omega arith);
      capacities = each_side _ r c;
    }

new_queue : (rc wc g : ℕ) (side : Side) → count_by (λ h. h == g) (of_side side (new_socket rc wc).semaphores).queue ≡ 0
new_queue rc wc g = each_side _ refl refl

opened : (w : World) (rc wc : ℕ) → WellFormed w → length w.sockets < w.limits.sockets → (0 < rc) × (rc ≤ w.limits.buffer) → (0 < wc) × (wc ≤ w.limits.buffer)
    → WellFormed (record w { sockets = w.sockets ++ new_socket rc wc ∷ [] })
opened w rc wc h room r c =
    record {
      goroutines =
          record {
            one_inside = h.goroutines.one_inside;
            inside_open = h.goroutines.inside_open;
            sockets_named = λ g s p. let b = h.goroutines.sockets_named g s p in rw length-append (omega arith);
            owed = h.goroutines.owed;
          };
      words = h.words;
      queues =
          record {
            queued = λ g s side socket is.
                elim (slice_get-push_cases w.sockets (new_socket rc wc) socket s is) [
                  | inl old ↦ h.queues.queued g s side socket old
                  | inr new ↦
                      ap (λ (x : Socket). count_by (λ k. k == g) (of_side side x.semaphores).queue) (sym new.1)
                      ∙ new_queue rc wc g side
                      ∙ sym (ap bit (unqueued w.goroutines s side g (λ k p. let b = h.goroutines.sockets_named k s p in let e = new.0 in omega arith)))
                ];
          };
      timers = h.timers;
      free = h.free;
      sockets = slice_get-push_all (SocketFits w.limits.buffer) w.sockets (new_socket rc wc) (new_fits w.limits.buffer rc wc r c) h.sockets;
      goroutines_limited = h.goroutines_limited;
      sockets_limited = rw length-append (omega arith);
      descriptors_limited = h.descriptors_limited;
      firings_limited = h.firings_limited;
      clock = h.clock;
    }

-- changing a buffer's bytes, within its capacity
buffer_fits : (limit : ℕ) (side : Side) (bytes : List ℕ) (socket : Socket) → length bytes ≤ (of_side side socket.buffers).capacity → SocketFits limit socket
    → SocketFits limit (with_buffer side bytes socket)
buffer_fits limit side bytes socket fits h =
    record {
      lock = h.lock;
      counts = h.counts;
      bytes = with_side_all (λ (b : Buffer). length b.bytes ≤ b.capacity) side _ socket.buffers fits h.bytes;
      capacities = with_side_all (λ (b : Buffer). (0 < b.capacity) × (b.capacity ≤ limit)) side _ socket.buffers (h.capacities side) h.capacities;
    }

rebuffered : (w : World) (s : ℕ) (socket : Socket) (side : Side) (bytes : List ℕ) → WellFormed w → slice_get w.sockets s ≡ Some socket
    → (length (of_side side socket.buffers).bytes ≤ (of_side side socket.buffers).capacity → length bytes ≤ (of_side side socket.buffers).capacity)
    → WellFormed (with_socket s (with_buffer side bytes socket) w)
rebuffered w s socket side bytes h at fits =
    let before : SocketFits w.limits.buffer socket = h.sockets s socket at in
    socket_set_keeps w s socket _ h at (λ _. refl) (buffer_fits _ side bytes socket (fits (before.bytes side)) before)

pub sockopen_sound : (w : World) (rc wc : ℕ) → WellFormed w → Keeps (sockopen rc wc w)
sockopen_sound w rc wc h =
    Ends-then (Ends-refused_unless (nat_lt (length w.sockets) w.limits.sockets) _ refl) λ room.
    Ends-then (Ends-sized rc w) λ r.
    Ends-then (Ends-sized wc w) λ c.
    Ends-ok (opened w rc wc h (below_of _ _ room) r c)

pub arrive_sound : (w : World) (s : ℕ) (bytes : List ℕ) → WellFormed w → Keeps (arrive s bytes w)
arrive_sound w s bytes h =
    Ends-bind (Ends-socket_of s w) λ socket at.
    Ends-then (Ends-refused_if (length bytes == 0) _ refl) λ _.
    Ends-then (Ends-refused_if socket.peer_closed _ refl) λ _.
    Ends-then (Ends-refused_unless (nat_le (length bytes) (room_of socket.buffers.read)) _ refl) λ fits.
    let room : length bytes ≤ room_of socket.buffers.read = most_of _ _ fits in
    Ends-ok (rebuffered w s socket Read (socket.buffers.read.bytes ++ bytes) h at (λ before. rw length-append (omega arith)))

-- the flags of a socket change
remarked : (w : World) (s : ℕ) (socket : Socket) (peer_closed shut : Bool) → WellFormed w → slice_get w.sockets s ≡ Some socket
    → WellFormed (with_socket s (record socket { peer_closed = peer_closed; shut = shut }) w)
remarked w s socket peer_closed shut h at =
    let fits : SocketFits w.limits.buffer socket = h.sockets s socket at in
    socket_set_keeps w s socket _ h at (λ _. refl) (record { lock = fits.lock; counts = fits.counts; bytes = fits.bytes; capacities = fits.capacities })

pub peerclose_sound : (w : World) (s : ℕ) → WellFormed w → Keeps (peerclose s w)
peerclose_sound w s h =
    Ends-bind (Ends-socket_of s w) λ socket at.
    Ends-then (Ends-refused_if socket.peer_closed _ refl) λ _.
    Ends-ok (remarked w s socket true socket.shut h at)

pub closewrite_sound : (w : World) (g s : ℕ) → WellFormed w → Keeps (closewrite g s w)
closewrite_sound w g s h =
    Ends-then (Ends-idle g w) λ _.
    Ends-bind (Ends-socket_of s w) λ socket at.
    Ends-ok (remarked w s socket socket.peer_closed true h at)

pub sysread_sound : (w : World) (g s n : ℕ) → WellFormed w → Keeps (sysread g s n w)
sysread_sound w g s n h =
    Ends-then (Ends-idle g w) λ _.
    Ends-bind (Ends-socket_of s w) λ socket at.
    Ends-then (Ends-sized n w) λ _.
    Ends-ok (rebuffered w s socket Read (drop n socket.buffers.read.bytes) h at (λ before. rw length-drop (omega arith)))

-- the output accepts no more bytes than it has room for
pub output_room_most : (shut : Bool) (output : Buffer) → output_room shut output ≤ room_of output
output_room_most true output = omega arith
output_room_most false output = omega arith

pub syswrite_sound : (w : World) (g s : ℕ) (bytes : List ℕ) → WellFormed w → Keeps (syswrite g s bytes w)
syswrite_sound w g s bytes h =
    Ends-then (Ends-idle g w) λ _.
    Ends-bind (Ends-socket_of s w) λ socket at.
    Ends-then (Ends-refused_if (length bytes == 0) _ refl) λ _.
    Ends-ok
    (rebuffered w s socket Write (socket.buffers.write.bytes ++ take (min (output_room socket.shut socket.buffers.write) (length bytes)) bytes) h at
    (λ before. let room = output_room_most socket.shut socket.buffers.write in simp (length-append, length-take) (omega arith)))

pub drain_sound : (w : World) (s n : ℕ) → WellFormed w → Keeps (drain s n w)
drain_sound w s n h =
    Ends-bind (Ends-socket_of s w) λ socket at.
    Ends-then (Ends-refused_if (n == 0) _ refl) λ _.
    Ends-then (Ends-refused_if (nat_lt (length socket.buffers.write.bytes) n) _ refl) λ _.
    Ends-ok (rebuffered w s socket Write (drop n socket.buffers.write.bytes) h at (λ before. rw length-drop (omega arith)))
