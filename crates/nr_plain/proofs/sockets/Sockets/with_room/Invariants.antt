use Rattle.std.proofs.Common.{◌≡◌, length}
use Rattle.std.specs.List.{All}
use Rattle.nr_plain.specs.Sockets.{HasRoom}
use Rattle.nr_plain.proofs.sockets.Sockets.with_room.Given as goal

abbrev pub invariant-loop : goal.invariant-loop
invariant-loop l =
    (length l.all.items ≡ l.counter) × All (HasRoom l.queue_room l.byte_room) l.all.items
