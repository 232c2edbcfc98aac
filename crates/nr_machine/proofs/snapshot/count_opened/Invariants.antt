use Rattle.std.proofs.Common.{◌≡◌, ◌-◌, ◌≤◌, ◌++◌, length, take, replicate}
use Rattle.nr_sockbuf.specs.Sock.{never_opened}
use Rattle.nr_machine.proofs.snapshot.count_opened.Given as goal

-- the sockets whose number is at least the count were never opened
abbrev pub invariant-loop-count : goal.invariant-loop-count
invariant-loop-count l =
    record {
      within : l.count ≤ length l.socks;
      behind : l.socks ≡ take l.count l.socks ++ replicate (length l.socks - l.count) (never_opened l.buffer);
    }

abbrev pub decreases-loop-count : goal.decreases-loop-count
decreases-loop-count l = l.count
