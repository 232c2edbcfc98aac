-- The table of open sockets after a socket is opened or changed, or its opening is undone.
use Rattle.std.proofs.Common.{◌≡◌, ℕ, ◌-◌, ◌<◌, ◌≤◌, List, length, length-take, get_or, map, set, take, Option, Some, sym, ap, subst, ◌∙◌, arith}
use Rattle.std.proofs.Math.Seq.{take-set-lt}
use Rattle.std.proofs.lemmas.List.{get_or-take, length-map, length-set, length-take-le, map-set, take-map, take-take}
use Rattle.std.proofs.lemmas.List.Elements.{All-get_or}
use Rattle.std.proofs.lemmas.Option.{slice_get-map, slice_get_past, slice_get_read}
use Rattle.std.specs.List.{All}
use Rattle.std.specs.Prelude.{IfSome, option_map, slice_get}
use Rattle.nr_rev.specs.Socket.{Socket}
use Rattle.nr_plain.specs.declared.socket_edit.SocketEdit.{SocketEdit}
use Rattle.nr_plain.specs.declared.socket_edit.SocketUndo.{SocketUndo}
use Rattle.nr_plain.specs.Edit.{with_changed, with_item}
use Rattle.nr_plain.specs.SocketEdit.{CanUndoSocket, after_socket_edit, after_socket_undo}
use Rattle.nr_plain.specs.Sockets.{Edits, EditsSocket, HasRoom}
use Rattle.nr_plain.specs.SocketTable.{RoomedSocket, SocketTable}
use Rattle.nr_plain.proofs.ItemLemmas.{changed-here, changed_back}

-- the open sockets
abbrev pub seen : ℕ → List RoomedSocket → List Socket
seen opened all = map (λ (p : RoomedSocket). p.socket) (take opened all)

-- the table of the open sockets
abbrev pub table : ℕ → ℕ → ℕ → List RoomedSocket → SocketTable
table queue_room byte_room opened all = record { sockets = seen opened all; room = length all; queue_room = queue_room; byte_room = byte_room }

module _ (all : List RoomedSocket) (opened place : ℕ) (few : opened ≤ length all) (within : place < opened) where
  -- an open socket is in the table
  pub seen_at : (old : RoomedSocket) → old ≡ get_or all place old → slice_get (seen opened all) place ≡ Some old.socket
  seen_at old read =
      slice_get-map (λ (p : RoomedSocket). p.socket) (take opened all) place
      ∙ ap (option_map (λ (p : RoomedSocket). p.socket))
      (slice_get_read (take opened all) opened place old (sym (length-take-le opened all few)) within (read ∙ sym (get_or-take opened all place old within)))

  -- the socket that replaces an open socket is in the table
  pub seen_changed : (old new : RoomedSocket) (change : Socket → Socket) → old ≡ get_or all place old → new.socket ≡ change old.socket → seen opened (set all place new) ≡ with_changed place change (seen opened all)
  seen_changed old new change read is =
      ap (map (λ (p : RoomedSocket). p.socket)) (take-set-lt opened all place new within)
      ∙ map-set (λ (p : RoomedSocket). p.socket) (take opened all) place new
      ∙ ap (set (seen opened all) place) is
      ∙ sym (ap (λ (o : Option Socket). with_item place (option_map change o) (seen opened all)) (seen_at old read))

  pub table_changed : (queue_room byte_room : ℕ) (old new : RoomedSocket) (change : Socket → Socket) → old ≡ get_or all place old → new ≡ record old { socket = change old.socket }
      → table queue_room byte_room opened (set all place new) ≡ record (table queue_room byte_room opened all) { sockets = with_changed place change (seen opened all) }
  table_changed queue_room byte_room old new change read is =
      ap (λ (room : ℕ). record { sockets = seen opened (set all place new); room = room; queue_room = queue_room; byte_room = byte_room }) (length-set all place new)
      ∙ ap (λ (sockets : List Socket). record { sockets = sockets; room = length all; queue_room = queue_room; byte_room = byte_room })
      (seen_changed old new change read (ap (λ (p : RoomedSocket). p.socket) is))

  -- a fact about an open socket holds for the socket in the table
  pub known_here : (P : Socket → Type 0) (old : RoomedSocket) → old ≡ get_or all place old → P old.socket → IfSome (slice_get (seen opened all) place) P
  known_here P old read known = subst (λ (o : Option Socket). IfSome o P) (sym (seen_at old read)) known

  -- changing an open socket changes the table, and the undo restores it
  pub edited : (queue_room byte_room : ℕ) (old new : RoomedSocket) (edit : SocketEdit) (undo : SocketUndo) → old ≡ get_or all place old → HasRoom queue_room byte_room old → Edits edit undo old new
      → EditsSocket place edit undo (table queue_room byte_room opened all) (table queue_room byte_room opened (set all place new))
  edited queue_room byte_room old new edit undo read room edits =
      let after = table_changed queue_room byte_room old new (after_socket_edit edit) read edits.after in
      let sockets = ap (λ (t : SocketTable). t.sockets) after in
      let can : CanUndoSocket queue_room byte_room undo (after_socket_edit edit old.socket) = rw (← room.queues, ← room.buffers) edits.back.0 in
      record {
        after = after;
        can = subst (λ (o : Option Socket). IfSome o (CanUndoSocket queue_room byte_room undo))
            (sym (ap (λ (xs : List Socket). slice_get xs place) sockets ∙ changed-here (after_socket_edit edit) (seen opened all) place ∙ ap (option_map (after_socket_edit edit)) (seen_at old read)))
            can;
        back = ap (with_changed place (after_socket_undo undo)) sockets
            ∙ changed_back (after_socket_edit edit) (after_socket_undo undo) (seen opened all) place
            (known_here (λ s. s ≡ after_socket_undo undo (after_socket_edit edit s)) old read edits.back.1);
        light = edits.light;
      }

-- each socket has the room that the table specifies
pub room_of : {queue_room byte_room : ℕ} (all : List RoomedSocket) (place : ℕ) (socket : RoomedSocket) → All (HasRoom queue_room byte_room) all → place < length all → socket ≡ get_or all place socket → HasRoom queue_room byte_room socket
room_of {queue_room} {byte_room} all place socket rooms within read = subst (HasRoom queue_room byte_room) (sym read) (All-get_or (HasRoom queue_room byte_room) all place socket within rooms)

-- the table has as many sockets as are open
pub length-seen : (all : List RoomedSocket) (opened : ℕ) → opened ≤ length all → length (seen opened all) ≡ opened
length-seen all opened few = length-map (take opened all) (λ (p : RoomedSocket). p.socket) ∙ length-take-le opened all few

-- undoing the opening of the last socket
pub last_taken_back : (all : List RoomedSocket) (opened : ℕ) → opened ≤ length all → seen (opened - 1) all ≡ take (length (seen opened all) - 1) (seen opened all)
last_taken_back all opened few =
    sym
    (ap (λ (m : ℕ). take (m - 1) (seen opened all)) (length-seen all opened few)
    ∙ take-map (λ (p : RoomedSocket). p.socket) (opened - 1) (take opened all)
    ∙ ap (map (λ (p : RoomedSocket). p.socket)) (take-take (opened - 1) opened all (omega arith)))

-- a socket that isn't open isn't in the table
pub past_all : (all : List RoomedSocket) (opened place : ℕ) → opened ≤ place → (P : Socket → Type 0) → IfSome (slice_get (seen opened all) place) P
past_all all opened place past P =
    let most = length-take opened all in
    let counted = length-map (take opened all) (λ (p : RoomedSocket). p.socket) in
    subst (λ (o : Option Socket). IfSome o P) (sym (slice_get_past (seen opened all) place (omega (arith, most, counted)))) tt
