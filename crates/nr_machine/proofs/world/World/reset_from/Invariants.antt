use Rattle.std.proofs.Common.{◌≡◌, length, take}
use Rattle.nr_machine.proofs.SnapshotLemmas.{AreReset}
use Rattle.nr_machine.proofs.world.World.reset_from.Given as goal

-- the sockets from `first` up to this one are closed, and those before `first` are unchanged
abbrev pub invariant-loop-socket : goal.invariant-loop-socket
invariant-loop-socket l =
    record {
      core : l.self-inside.core ≡ l.initial.self-inside.core;
      count : length l.self-inside.socks.items ≡ length l.initial.self-inside.socks.items;
      before : take l.first l.self-inside.socks.items ≡ take l.first l.initial.self-inside.socks.items;
      reset : AreReset l.initial.self-inside.core.limits.buffer l.first l.socket (length l.initial.self-inside.core.locks.items) l.self-inside.socks.items;
    }
