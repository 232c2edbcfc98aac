use Rattle.std.proofs.Common.{List, ap, length}
use Rattle.nr_rev.specs.Socket.{Socket}
use Rattle.nr_plain.specs.SocketTable.{SocketTable}
use Rattle.nr_plain.proofs.SocketTableLemmas.{last_taken_back}
use Rattle.nr_plain.proofs.sockets.Sockets.close_last.Goals as goal

pub returns : goal.returns
returns c =
    let t = c.self.inside in
    let with_sockets : List Socket → SocketTable = λ sockets. record { sockets = sockets; room = length t.all.items; queue_room = t.queue_room; byte_room = t.byte_room } in
    rw (← c.self.view_is, c.saturating_sub-self-inside.ensures) (ap with_sockets (last_taken_back t.all.items t.opened c.self.invariant.opened))
