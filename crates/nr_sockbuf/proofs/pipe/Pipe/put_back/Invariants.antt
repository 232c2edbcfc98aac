use Rattle.std.proofs.Common.{◌≡◌, ◌≤◌, ◌++◌, length, drop}
use Rattle.nr_sockbuf.proofs.pipe.Pipe.put_back.Given as goal

abbrev pub invariant-loop-left : goal.invariant-loop-left
invariant-loop-left l =
    record {
      within : l.left ≤ length l.bytes;
      items : l.self-inside.ring.items ≡ drop l.left l.bytes ++ l.initial.self-inside.ring.items;
      room : l.self-inside.ring.capacity ≡ l.initial.self-inside.ring.capacity;
      capacity : l.self-inside.capacity ≡ l.initial.self-inside.capacity;
      most : l.self-inside.most ≡ l.initial.self-inside.most;
    }

abbrev pub decreases-loop-left : goal.decreases-loop-left
decreases-loop-left l = l.left
