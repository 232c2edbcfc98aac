-- The primitive changes to a world, and their undos.
use Rattle.std.specs.Prelude.{◌≡◌, ℕ, ◌+◌, ◌-◌, ◌*◌, ◌<◌, ◌≤◌, List, [], ◌∷◌, ◌++◌, length, take, drop, insert, remove, slice_get, slice_set, Option, Some, None, option_map, IfSome}
use Rattle.nr_rev.specs.declared.status.Status.TheVariants as status
use Rattle.nr_rev.specs.Socket.{new_socket}
use Rattle.nr_rev.specs.Step.{new_row, after_wakes}
use Rattle.nr_rev.specs.Weight.{entry_weight, number_weight, row_weight, status_weight, time_weight, variant_weight}
use Rattle.nr_rev.specs.World.{World, with_row, with_status}
use Rattle.nr_plain.specs.declared.edit.Edit.{Edit}
use Rattle.nr_plain.specs.declared.edit.Edit.TheVariants as edit
use Rattle.nr_plain.specs.declared.edit.Undo.{Undo}
use Rattle.nr_plain.specs.declared.edit.Undo.TheVariants as undo
use Rattle.nr_plain.specs.SocketEdit.{CanEditSocket, CanUndoSocket, socket_edit_weight, after_socket_edit, after_socket_undo, socket_undo_weight}

-- the list with this item, if any, at an index
abbrev pub with_item : {X : Type 0} → ℕ → Option X → List X → List X
with_item place None xs = xs
with_item place (Some x) xs = slice_set xs place x

-- the list with the item at an index changed, or the same list if that index doesn't exist
abbrev pub with_changed : {X : Type 0} → ℕ → (X → X) → List X → List X
with_changed place change xs = with_item place (option_map change (slice_get xs place)) xs

-- the world after a change
abbrev pub after_edit : Edit → World → World
after_edit (edit.Status g status) w = with_status g status w
after_edit edit.AddGoroutine w = record w { goroutines = w.goroutines ++ status.Idle ∷ [] }
after_edit (edit.AddSocket rc wc) w = record w { sockets = w.sockets ++ new_socket rc wc ∷ [] }
after_edit (edit.Socket s change) w =
    record w { sockets = with_changed s (after_socket_edit change) w.sockets }
after_edit (edit.Row d row) w = with_row d row w
after_edit edit.AddRow w = record w { descriptors = w.descriptors ++ new_row ∷ [] }
after_edit edit.TakeFree w = record w { free = drop 1 w.free }
after_edit (edit.GiveFree d) w = record w { free = d ∷ w.free }
after_edit (edit.Wake g) w = after_wakes (g ∷ []) w
after_edit (edit.Waiters count) w = record w { waiters = count }
after_edit (edit.Arming number) w = record w { next_arming = number }
after_edit (edit.Clock time) w = record w { clock = time }
after_edit (edit.AddFiring entry) w = record w { firings = w.firings ++ entry ∷ [] }
after_edit (edit.TakeFiring place) w = record w { firings = remove w.firings place }

-- the world after an undo
abbrev pub after_undo : Undo → World → World
after_undo (undo.Status g status) w = with_status g status w
after_undo undo.RemoveGoroutine w =
    record w { goroutines = take (length w.goroutines - 1) w.goroutines }
after_undo undo.RemoveSocket w = record w { sockets = take (length w.sockets - 1) w.sockets }
after_undo (undo.Socket s change) w =
    record w { sockets = with_changed s (after_socket_undo change) w.sockets }
after_undo (undo.Row d row) w = with_row d row w
after_undo undo.RemoveRow w =
    record w { descriptors = take (length w.descriptors - 1) w.descriptors }
after_undo (undo.ReturnFree d) w = record w { free = d ∷ w.free }
after_undo undo.RemoveFree w = record w { free = drop 1 w.free }
after_undo (undo.Sleep g status waiters) w =
    record w { goroutines = slice_set w.goroutines g status; waiters = waiters }
after_undo (undo.Waiters count) w = record w { waiters = count }
after_undo (undo.Arming number) w = record w { next_arming = number }
after_undo (undo.Clock time) w = record w { clock = time }
after_undo undo.RemoveFiring w = record w { firings = take (length w.firings - 1) w.firings }
after_undo (undo.ReturnFiring place entry) w = record w { firings = insert w.firings place entry }

-- true if the world has room for what the change adds, and contains what it removes
abbrev pub CanEdit : Edit → World → Type 0
CanEdit (edit.Status g status) w = Unit {0}
CanEdit edit.AddGoroutine w = length w.goroutines < w.limits.goroutines
CanEdit (edit.AddSocket rc wc) w = length w.sockets < w.limits.sockets
CanEdit (edit.Socket s change) w =
    IfSome (slice_get w.sockets s) (CanEditSocket w.limits.goroutines w.limits.buffer change)
CanEdit (edit.Row d row) w = Unit {0}
CanEdit edit.AddRow w = length w.descriptors < w.limits.descriptors
CanEdit edit.TakeFree w = 0 < length w.free
CanEdit (edit.GiveFree d) w = length w.free < w.limits.descriptors
CanEdit (edit.Wake g) w = Unit {0}
CanEdit (edit.Waiters count) w = Unit {0}
CanEdit (edit.Arming number) w = Unit {0}
CanEdit (edit.Clock time) w = Unit {0}
CanEdit (edit.AddFiring entry) w = length w.firings < 2 * w.limits.descriptors
CanEdit (edit.TakeFiring place) w = place < length w.firings

-- true if the world has room for what the undo restores
abbrev pub CanUndo : Undo → World → Type 0
CanUndo (undo.Socket s change) w =
    IfSome (slice_get w.sockets s) (CanUndoSocket w.limits.goroutines w.limits.buffer change)
CanUndo (undo.ReturnFree d) w = length w.free < w.limits.descriptors
CanUndo (undo.ReturnFiring place entry) w =
    (place ≤ length w.firings) × (length w.firings < 2 * w.limits.descriptors)
CanUndo _ w = Unit {0}

-- true if the undo turns the new world back into the old one
abbrev pub Undoes : Undo → World → World → Type 0
Undoes undo new old = CanUndo undo new × (old ≡ after_undo undo new)

-- the number of words in an undo
abbrev pub undo_weight : Undo → ℕ
undo_weight (undo.Status g status) = variant_weight + number_weight g + status_weight status
undo_weight undo.RemoveGoroutine = variant_weight
undo_weight undo.RemoveSocket = variant_weight
undo_weight (undo.Socket s change) = variant_weight + number_weight s + socket_undo_weight change
undo_weight (undo.Row d row) = variant_weight + number_weight d + row_weight row
undo_weight undo.RemoveRow = variant_weight
undo_weight (undo.ReturnFree d) = variant_weight + number_weight d
undo_weight undo.RemoveFree = variant_weight
undo_weight (undo.Sleep g status waiters) =
    variant_weight + number_weight g + status_weight status + number_weight waiters
undo_weight (undo.Waiters count) = variant_weight + number_weight count
undo_weight (undo.Arming number) = variant_weight + number_weight number
undo_weight (undo.Clock time) = variant_weight + time_weight time
undo_weight undo.RemoveFiring = variant_weight
undo_weight (undo.ReturnFiring place entry) =
    variant_weight + number_weight place + entry_weight entry

-- the maximum number of words in the undo of a change
abbrev pub edit_weight : Edit → ℕ
edit_weight (edit.Status g status) = 6
edit_weight edit.AddGoroutine = 1
edit_weight (edit.AddSocket rc wc) = 1
edit_weight (edit.Socket s change) = 2 + socket_edit_weight change
edit_weight (edit.Row d row) = 26
edit_weight edit.AddRow = 1
edit_weight edit.TakeFree = 2
edit_weight (edit.GiveFree d) = 1
edit_weight (edit.Wake g) = 7
edit_weight (edit.Waiters count) = 2
edit_weight (edit.Arming number) = 2
edit_weight (edit.Clock time) = 2
edit_weight (edit.AddFiring entry) = 1
edit_weight (edit.TakeFiring place) = 8
