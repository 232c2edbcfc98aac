use Rattle.std.proofs.Common.{◌≡◌, length, take}
use Rattle.std.specs.List.{All}
use Rattle.nr_plain.specs.Sockets.{HasRoom}
use Rattle.nr_plain.proofs.sockets.Sockets.copy_from.Given as goal

-- the sockets copied so far equal those of the other table, and each socket has as much room for
-- queues and bytes as this table prescribes
abbrev pub invariant-loop-place : goal.invariant-loop-place
invariant-loop-place l =
    record {
      done : take l.place l.self-inside.all.items ≡ take l.place l.other-inside.all.items;
      count : length l.self-inside.all.items ≡ length l.initial.self-inside.all.items;
      roomed : All (HasRoom l.initial.self-inside.queue_room l.initial.self-inside.byte_room) l.self-inside.all.items;
      opened : l.self-inside.opened ≡ l.initial.self-inside.opened;
      queues : l.self-inside.queue_room ≡ l.initial.self-inside.queue_room;
      buffers : l.self-inside.byte_room ≡ l.initial.self-inside.byte_room;
    }
