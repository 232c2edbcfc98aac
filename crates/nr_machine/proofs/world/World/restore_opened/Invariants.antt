use Rattle.std.proofs.Common.{◌≡◌, drop, length, take}
use Rattle.nr_machine.proofs.world.World.restore_opened.Given as goal

-- the buffers restored so far are those of the snapshot, and the others are unchanged
abbrev pub invariant-loop-socket : goal.invariant-loop-socket
invariant-loop-socket l =
    record {
      core : l.self-inside.core ≡ l.initial.self-inside.core;
      count : length l.self-inside.socks.items ≡ length l.initial.self-inside.socks.items;
      done : take l.socket l.self-inside.socks.items ≡ take l.socket l.opened;
      rest : drop l.socket l.self-inside.socks.items ≡ drop l.socket l.initial.self-inside.socks.items;
    }
