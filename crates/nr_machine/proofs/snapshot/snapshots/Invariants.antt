use Rattle.std.proofs.Common.{◌≡◌, take}
use Rattle.nr_machine.proofs.snapshot.snapshots.Given as goal

abbrev pub invariant-loop-sock : goal.invariant-loop-sock
invariant-loop-sock l = l.snapshots.items ≡ take l.sock-index l.socks
