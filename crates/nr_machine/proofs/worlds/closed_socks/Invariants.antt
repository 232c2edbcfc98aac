use Rattle.std.proofs.Common.{◌≡◌, replicate}
use Rattle.nr_sockbuf.specs.Sock.{never_opened}
use Rattle.nr_machine.proofs.worlds.closed_socks.Given as goal

abbrev pub invariant-loop-socket : goal.invariant-loop-socket
invariant-loop-socket l = l.socks.items ≡ replicate l._socket (never_opened l.buffer)
