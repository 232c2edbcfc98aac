-- The sockets of a world over lists.
use Rattle.std.specs.Prelude.{◌≡◌, ℕ, ◌≤◌, length, map, slice_get, take, IfSome}
use Rattle.std.specs.List.{All}
use Rattle.nr_plain.specs.declared.socket_edit.SocketEdit.{SocketEdit}
use Rattle.nr_plain.specs.declared.socket_edit.SocketUndo.{SocketUndo}
use Rattle.nr_plain.specs.declared.sockets.Sockets.TheInside.{Inside}
use Rattle.nr_plain.specs.Edit.{with_changed}
use Rattle.nr_plain.specs.SocketEdit.{CanUndoSocket, UndoesSocket, after_socket_edit, after_socket_undo, socket_edit_weight, socket_undo_weight}
use Rattle.nr_plain.specs.SocketTable.{RoomedSocket, SocketTable}

-- true if the socket's queues and buffers have this much room
pub record HasRoom (queue_room byte_room : ℕ) (p : RoomedSocket) : Type 0 where
  pub queues : p.queue_room ≡ queue_room
  pub buffers : p.byte_room ≡ byte_room

-- the table that contracts see, with the open sockets only
abbrev pub table_view : Inside → SocketTable
table_view t =
    record {
      sockets = map (λ (p : RoomedSocket). p.socket) (take t.opened t.all.items);
      room = length t.all.items;
      queue_room = t.queue_room;
      byte_room = t.byte_room;
    }

-- true if the number of open sockets is at most the number of sockets, and each socket has as much
-- room for queues and bytes as the table prescribes
pub record AreRoomed (t : Inside) : Type 0 where
  pub opened : t.opened ≤ length t.all.items
  pub roomed : All (HasRoom t.queue_room t.byte_room) t.all.items

-- true if the change was made, and the undo restores the old socket and has at most the allowed
-- number of words
pub record Edits (edit : SocketEdit) (undo : SocketUndo) (old new : RoomedSocket) : Type 0 where
  pub after : new ≡ record old { socket = after_socket_edit edit old.socket }
  pub back : UndoesSocket old.queue_room old.byte_room undo
      (after_socket_edit edit old.socket) old.socket
  pub light : socket_undo_weight undo ≤ socket_edit_weight edit

-- true if the change to socket s was made, and the undo restores the old table and has at most the
-- allowed number of words
pub record EditsSocket (s : ℕ) (edit : SocketEdit) (undo : SocketUndo) (old new : SocketTable) :
    Type 0 where
  pub after : new ≡ record old { sockets = with_changed s (after_socket_edit edit) old.sockets }
  pub can : IfSome (slice_get new.sockets s) (CanUndoSocket old.queue_room old.byte_room undo)
  pub back : with_changed s (after_socket_undo undo) new.sockets ≡ old.sockets
  pub light : socket_undo_weight undo ≤ socket_edit_weight edit
