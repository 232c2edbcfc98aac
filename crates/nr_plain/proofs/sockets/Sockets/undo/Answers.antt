use Rattle.std.proofs.Common.{arith}
use Rattle.nr_plain.specs.SocketEdit.{after_socket_undo}
use Rattle.nr_plain.proofs.SocketTableLemmas.{table_changed}
use Rattle.nr_plain.proofs.sockets.Sockets.undo.Goals as goal

pub returns-then-place-self : goal.returns-then-place-self
returns-then-place-self c =
    let t = c.self.inside in
    rw (← c.self.view_is)
    (table_changed t.all.items t.opened c.args.socket c.self.invariant.opened (omega arith) t.queue_room t.byte_room c.index_mut.result.now c.undo.new.self (after_socket_undo c.args.undo) c.index_mut.ensures.value c.undo.ensures)
