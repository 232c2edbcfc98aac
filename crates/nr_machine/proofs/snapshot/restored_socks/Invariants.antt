use Rattle.std.proofs.Common.{◌≡◌, ◌++◌, take, replicate}
use Rattle.nr_sockbuf.specs.Sock.{never_opened}
use Rattle.nr_machine.proofs.snapshot.restored_socks.Given as goal

abbrev pub invariant-loop-snapshot : goal.invariant-loop-snapshot
invariant-loop-snapshot l = l.socks.items ≡ take l.snapshot-index l.opened

abbrev pub invariant-loop-socket : goal.invariant-loop-socket
invariant-loop-socket l =
    l.socks.items ≡ l.opened ++ replicate l._socket (never_opened l.buffer)
