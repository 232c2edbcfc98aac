-- Removing bytes from the front of a buffer, and putting them back.
use Rattle.std.proofs.Common.{◌≡◌, ℕ, ◌+◌, ◌/◌, ◌≤◌, [], ◌∷◌, ◌++◌, List, length, length-append, drop, take, take-append-drop, refl, sym, ap, ◌∙◌, arith}
use Rattle.std.proofs.lemmas.List.Sums.{sum_by-cons}
use Rattle.std.proofs.lemmas.Option.{IfSome_then}
use Rattle.std.specs.Prelude.{IfSome, slice_get}
use Rattle.nr_rev.specs.declared.sides.Side.{Side}
use Rattle.nr_rev.specs.declared.sides.Side.TheVariants.{Read, Write}
use Rattle.nr_rev.specs.Sides.{of_side}
use Rattle.nr_rev.specs.Socket.{Socket}
use Rattle.nr_rev.specs.World.{World}
use Rattle.nr_plain.specs.declared.delta.PlainDelta.{PlainDelta}
use Rattle.nr_plain.specs.declared.delta.TheConstants.{MOST_WORDS}
use Rattle.nr_plain.specs.declared.edit.Undo.TheVariants as undo
use Rattle.nr_plain.specs.declared.socket_edit.SocketUndo.TheVariants.{Restore}
use Rattle.nr_plain.specs.Edit.{Undoes, undo_weight}
use Rattle.nr_plain.specs.Making.{IsFrontOf, LeadsBackWithin, after_taking}
use Rattle.nr_plain.specs.SocketEdit.{CanUndoSocket, UndoesSocket, after_socket_undo, on_bytes}
use Rattle.nr_plain.proofs.ItemLemmas.{both_known, changed-here, changed_back, mapped_known}

module _ (bytes held : List ℕ) (front : bytes ≡ take (length bytes) held) where
  -- the removed bytes followed by the rest are the original bytes
  joined : held ≡ bytes ++ drop (length bytes) held
  joined = sym (ap (λ (taken : List ℕ). taken ++ drop (length bytes) held) front ∙ take-append-drop (length bytes) held)

  fits_again : (room : ℕ) → length held ≤ room → length bytes + length (drop (length bytes) held) ≤ room
  fits_again room short =
      let whole = ap length joined in
      let parts = length-append bytes (drop (length bytes) held) in
      omega (arith, whole, parts, short)

-- the bytes can be put back into the socket's buffer
bytes_return : (queue_room byte_room : ℕ) (socket : Socket) (side : Side) (bytes : List ℕ) → length (of_side side socket.buffers).bytes ≤ byte_room
    → bytes ≡ take (length bytes) (of_side side socket.buffers).bytes
    → UndoesSocket queue_room byte_room (Restore side bytes) (on_bytes side (λ held. drop (length bytes) held) socket) socket
bytes_return queue_room byte_room socket Read bytes short front = (
  fits_again bytes socket.buffers.read.bytes front byte_room short,
  ap (λ (held : List ℕ). on_bytes Read (λ _. held) socket) (joined bytes socket.buffers.read.bytes front),
)
bytes_return queue_room byte_room socket Write bytes short front = (
  fits_again bytes socket.buffers.write.bytes front byte_room short,
  ap (λ (held : List ℕ). on_bytes Write (λ _. held) socket) (joined bytes socket.buffers.write.bytes front),
)

module _ (w : World) (s : ℕ) (side : Side) (bytes : List ℕ) where
  abbrev taking : Socket → Socket
  taking = on_bytes side (λ held. drop (length bytes) held)

  abbrev returning : Socket → Socket
  returning = after_socket_undo (Restore side bytes)

  -- putting the bytes back into the buffer restores the world
  restored : IfSome (slice_get w.sockets s) (λ (socket : Socket). length (of_side side socket.buffers).bytes ≤ w.limits.buffer)
      → IfSome (slice_get w.sockets s) (λ (socket : Socket). bytes ≡ take (length bytes) (of_side side socket.buffers).bytes)
      → Undoes (undo.Socket s (Restore side bytes)) (after_taking s side (length bytes) w) w
  restored short front =
      let back : IfSome (slice_get w.sockets s) (λ (socket : Socket). UndoesSocket w.limits.goroutines w.limits.buffer (Restore side bytes) (taking socket) socket) =
      both_known (slice_get w.sockets s) short front
      (λ socket fits are. bytes_return w.limits.goroutines w.limits.buffer socket side bytes fits are) in (
        rw (changed-here taking w.sockets s)
            (mapped_known taking (CanUndoSocket w.limits.goroutines w.limits.buffer (Restore side bytes)) (slice_get w.sockets s)
            (IfSome_then (slice_get w.sockets s) back (λ socket undoes. undoes.0))),
        ap (λ sockets. record w { sockets = sockets })
            (sym (changed_back taking returning w.sockets s (IfSome_then (slice_get w.sockets s) back (λ socket undoes. undoes.1)))),
      )

-- undoing a delta with the removed bytes restores the world
pub taken_back : (w : World) (s : ℕ) (side : Side) (count : ℕ) (bytes : List ℕ) (delta : PlainDelta)
    → IfSome (slice_get w.sockets s) (λ (socket : Socket). length (of_side side socket.buffers).bytes ≤ w.limits.buffer)
    → IsFrontOf s side count w bytes → delta.undos.items ≡ undo.Socket s (Restore side bytes) ∷ []
    → LeadsBackWithin (MOST_WORDS + (count + 7) / 8) (after_taking s side count w) w delta
taken_back w s side count bytes delta short front is =
    let weight = sum_by-cons undo_weight (undo.Socket s (Restore side bytes)) [] in
    let same = front.0 in
    rw (is, ← same) (
      (after_taking s side (length bytes) w, refl, restored w s side bytes short (rw same front.1)),
      omega (arith, weight),
    )
