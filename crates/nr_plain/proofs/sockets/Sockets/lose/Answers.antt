use Rattle.std.proofs.Common.{◌≤◌, drop, length, arith}
use Rattle.nr_rev.specs.Sides.{of_side}
use Rattle.nr_rev.specs.Socket.{Socket}
use Rattle.nr_plain.specs.SocketEdit.{on_bytes}
use Rattle.nr_plain.proofs.SocketTableLemmas.{known_here, past_all, room_of, table_changed}
use Rattle.nr_plain.proofs.sockets.Sockets.lose.Goals as goal

pub returns-then-place-self-clause-after : goal.returns-then-place-self-clause-after
returns-then-place-self-clause-after c =
    let t = c.self.inside in
    rw (← c.self.view_is)
    (table_changed t.all.items t.opened c.args.socket c.self.invariant.opened (omega arith) t.queue_room t.byte_room c.index_mut.result.now c.lose.new.self (on_bytes c.args.side (drop c.args.count)) c.index_mut.ensures.value c.lose.ensures.after)

pub returns-then-place-self-clause-short : goal.returns-then-place-self-clause-short
returns-then-place-self-clause-short c =
    let t = c.self.inside in
    let few = c.self.invariant.opened in
    let room = room_of t.all.items c.args.socket c.index_mut.result.now c.self.invariant.roomed (omega arith) c.index_mut.ensures.value in
    rw (← c.self.view_is)
    (known_here t.all.items t.opened c.args.socket few (omega arith) (λ (x : Socket). length (of_side c.args.side x.buffers).bytes ≤ t.byte_room) c.index_mut.result.now c.index_mut.ensures.value (rw (← room.buffers) c.lose.ensures.short))

pub returns-else-place-self-clause-short : goal.returns-else-place-self-clause-short
returns-else-place-self-clause-short c =
    let t = c.self.inside in
    rw (← c.self.view_is)
    (past_all t.all.items t.opened c.args.socket (omega arith) (λ (x : Socket). length (of_side c.args.side x.buffers).bytes ≤ t.byte_room))
