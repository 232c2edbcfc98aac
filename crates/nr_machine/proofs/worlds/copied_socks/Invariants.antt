use Rattle.std.proofs.Common.{◌≡◌, take}
use Rattle.nr_machine.proofs.worlds.copied_socks.Given as goal

abbrev pub invariant-loop-sock : goal.invariant-loop-sock
invariant-loop-sock l = l.copies.items ≡ take l.sock-index l.socks
