use Rattle.std.proofs.Common.{◌≡◌, take}
use Rattle.nr_plain.proofs.sockets.Sockets.try_copy.Given as goal

abbrev pub invariant-loop-socket : goal.invariant-loop-socket
invariant-loop-socket l = l.all.items ≡ take l.socket-index l.self-inside.all.items
