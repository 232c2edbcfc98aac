-- The primitive changes to a socket, and their undos.
use Rattle.std.specs.Prelude.{◌≡◌, ℕ, ◌+◌, ◌-◌, ◌<◌, ◌≤◌, ◌^◌, true, false, List, [], ◌∷◌, ◌++◌, length, take, drop, option_to_list}
use Rattle.nr_rev.specs.declared.sides.Side.{Side}
use Rattle.nr_rev.specs.Sides.{of_side, with_side}
use Rattle.nr_rev.specs.Semaphore.{Semaphore}
use Rattle.nr_rev.specs.Socket.{Socket}
use Rattle.nr_rev.specs.Weight.{bool_weight, bytes_weight, lock_weight, number_weight, option_weight, side_weight, variant_weight}
use Rattle.nr_plain.specs.declared.socket_edit.SocketEdit.{SocketEdit}
use Rattle.nr_plain.specs.declared.socket_edit.SocketEdit.TheVariants as edit
use Rattle.nr_plain.specs.declared.socket_edit.SocketUndo.{SocketUndo}
use Rattle.nr_plain.specs.declared.socket_edit.SocketUndo.TheVariants as undo

-- the socket with the semaphore of a side changed
abbrev pub on_semaphore : Side → (Semaphore → Semaphore) → Socket → Socket
on_semaphore side change socket =
    record socket {
      semaphores = with_side side (change (of_side side socket.semaphores))
          socket.semaphores;
    }

-- the socket with the queue of a side changed
abbrev pub on_queue : Side → (List ℕ → List ℕ) → Socket → Socket
on_queue side change socket =
    on_semaphore side (λ semaphore. record semaphore { queue = change semaphore.queue }) socket

-- the socket with the bytes of a side changed
abbrev pub on_bytes : Side → (List ℕ → List ℕ) → Socket → Socket
on_bytes side change socket =
    record socket {
      buffers = with_side side (record (of_side side socket.buffers)
          { bytes = change (of_side side socket.buffers).bytes }) socket.buffers;
    }

-- the socket after a change
abbrev pub after_socket_edit : SocketEdit → Socket → Socket
after_socket_edit (edit.Lock lock) socket = record socket { lock = lock }
after_socket_edit (edit.Count side count) socket =
    on_semaphore side (λ semaphore. record semaphore { count = count }) socket
after_socket_edit (edit.Enqueue side g) socket =
    on_semaphore side (λ semaphore. record semaphore { queue = semaphore.queue ++ g ∷ [] }) socket
after_socket_edit (edit.Release side) socket =
    on_semaphore side
    (λ semaphore. record { count = semaphore.count + 1; queue = drop 1 semaphore.queue }) socket
after_socket_edit (edit.Append side bytes) socket = on_bytes side (λ held. held ++ bytes.now) socket
after_socket_edit edit.ClosePeer socket = record socket { peer_closed = true }
after_socket_edit (edit.Shut shut) socket = record socket { shut = shut }

-- the socket after an undo
abbrev pub after_socket_undo : SocketUndo → Socket → Socket
after_socket_undo (undo.Lock lock) socket = record socket { lock = lock }
after_socket_undo (undo.Count side count) socket =
    on_semaphore side (λ semaphore. record semaphore { count = count }) socket
after_socket_undo (undo.LeaveQueue side) socket =
    on_semaphore side
    (λ semaphore. record semaphore {
      queue = take (length semaphore.queue - 1) semaphore.queue;
    }) socket
after_socket_undo (undo.Requeue side front) socket =
    on_semaphore side
    (λ semaphore. record {
      count = semaphore.count - 1;
      queue = option_to_list front ++ semaphore.queue;
    }) socket
after_socket_undo (undo.Cut side len) socket = on_bytes side (λ held. take len held) socket
after_socket_undo (undo.Restore side bytes) socket = on_bytes side (λ held. bytes ++ held) socket
after_socket_undo undo.OpenPeer socket = record socket { peer_closed = false }
after_socket_undo (undo.Shut shut) socket = record socket { shut = shut }

-- true if the change fits into queues and buffers with this much room
abbrev pub CanEditSocket : ℕ → ℕ → SocketEdit → Socket → Type 0
CanEditSocket queue_room byte_room (edit.Lock lock) socket = Unit {0}
CanEditSocket queue_room byte_room (edit.Count side count) socket = Unit {0}
CanEditSocket queue_room byte_room (edit.Enqueue side g) socket =
    length (of_side side socket.semaphores).queue < queue_room
CanEditSocket queue_room byte_room (edit.Release side) socket =
    (of_side side socket.semaphores).count + 1 < 2 ^ 32
CanEditSocket queue_room byte_room (edit.Append side bytes) socket =
    length (of_side side socket.buffers).bytes + length bytes.now ≤ byte_room
CanEditSocket queue_room byte_room edit.ClosePeer socket = socket.peer_closed ≡ false
CanEditSocket queue_room byte_room (edit.Shut shut) socket = Unit {0}

-- true if queues and buffers with this much room can hold what the undo restores
abbrev pub CanUndoSocket : ℕ → ℕ → SocketUndo → Socket → Type 0
CanUndoSocket queue_room byte_room (undo.Lock lock) socket = Unit {0}
CanUndoSocket queue_room byte_room (undo.Count side count) socket = Unit {0}
CanUndoSocket queue_room byte_room (undo.LeaveQueue side) socket = Unit {0}
CanUndoSocket queue_room byte_room (undo.Requeue side front) socket =
    length (option_to_list front) + length (of_side side socket.semaphores).queue ≤ queue_room
CanUndoSocket queue_room byte_room (undo.Cut side len) socket = Unit {0}
CanUndoSocket queue_room byte_room (undo.Restore side bytes) socket =
    length bytes + length (of_side side socket.buffers).bytes ≤ byte_room
CanUndoSocket queue_room byte_room undo.OpenPeer socket = Unit {0}
CanUndoSocket queue_room byte_room (undo.Shut shut) socket = Unit {0}

-- true if the undo turns the new socket back into the old one
abbrev pub UndoesSocket : ℕ → ℕ → SocketUndo → Socket → Socket → Type 0
UndoesSocket queue_room byte_room undo new old =
    CanUndoSocket queue_room byte_room undo new × (old ≡ after_socket_undo undo new)

-- the number of words in an undo
abbrev pub socket_undo_weight : SocketUndo → ℕ
socket_undo_weight (undo.Lock lock) = variant_weight + lock_weight lock
socket_undo_weight (undo.Count side count) = variant_weight + side_weight side + number_weight count
socket_undo_weight (undo.LeaveQueue side) = variant_weight + side_weight side
socket_undo_weight (undo.Requeue side front) =
    variant_weight + side_weight side + option_weight number_weight front
socket_undo_weight (undo.Cut side len) = variant_weight + side_weight side + number_weight len
socket_undo_weight (undo.Restore side bytes) =
    variant_weight + side_weight side + bytes_weight bytes
socket_undo_weight undo.OpenPeer = variant_weight
socket_undo_weight (undo.Shut shut) = variant_weight + bool_weight shut

-- the maximum number of words in the undo of a change
abbrev pub socket_edit_weight : SocketEdit → ℕ
socket_edit_weight (edit.Lock lock) = variant_weight + lock_weight lock
socket_edit_weight (edit.Count side count) = 3
socket_edit_weight (edit.Enqueue side g) = 2
socket_edit_weight (edit.Release side) = 4
socket_edit_weight (edit.Append side bytes) = 3
socket_edit_weight edit.ClosePeer = 1
socket_edit_weight (edit.Shut shut) = 2
