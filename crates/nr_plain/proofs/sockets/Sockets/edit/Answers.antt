use Rattle.std.proofs.Common.{arith}
use Rattle.nr_plain.proofs.SocketTableLemmas.{edited, room_of}
use Rattle.nr_plain.proofs.sockets.Sockets.edit.Goals as goal

pub returns : goal.returns
returns c =
    let t = c.self.inside in
    let few = c.self.invariant.opened in
    let room = room_of t.all.items c.args.socket c.index_mut.result.now c.self.invariant.roomed (omega arith) c.index_mut.ensures.value in
    rw (← c.self.view_is)
    (edited t.all.items t.opened c.args.socket few (omega arith) t.queue_room t.byte_room c.index_mut.result.now c.edit.new.self c.args.edit c.edit.result c.index_mut.ensures.value room c.edit.ensures)
