-- The model of the world over lists, and its room.
use Rattle.std.specs.Prelude.{◌≡◌, ◌*◌, ◌^◌, ◌<◌, ◌≤◌}
use Rattle.nr_rev.specs.World.{World}
use Rattle.nr_plain.specs.declared.edit.Edit.{Edit}
use Rattle.nr_plain.specs.declared.edit.Undo.{Undo}
use Rattle.nr_plain.specs.declared.world.PlainWorld.TheInside.{Inside}
use Rattle.nr_plain.specs.Edit.{Undoes, edit_weight, after_edit, undo_weight}

-- the world that these fields represent in contracts
abbrev pub world_view : Inside → World
world_view p =
    record {
      limits = p.limits;
      goroutines = p.goroutines.items;
      sockets = p.sockets.sockets;
      descriptors = p.descriptors.items;
      firings = p.firings.items;
      free = p.free.items;
      clock = p.clock;
      waiters = p.waiters;
      next_arming = p.next_arming;
    }

-- true if the world has the room that its limits specify
pub record HasRooms (p : Inside) : Type 0 where
  pub goroutines : p.goroutines.room ≡ p.limits.goroutines
  pub sockets : p.sockets.room ≡ p.limits.sockets
  pub queues : p.sockets.queue_room ≡ p.limits.goroutines
  pub buffers : p.sockets.byte_room ≡ p.limits.buffer
  pub descriptors : p.descriptors.room ≡ p.limits.descriptors
  pub firings : p.firings.room ≡ 2 * p.limits.descriptors
  pub free : p.free.room ≡ p.limits.descriptors
  pub small : p.limits.descriptors < 2 ^ 32

-- true if the change was made, and the undo restores the old world and has at most the allowed
-- number of words
pub record Performs (edit : Edit) (undo : Undo) (old new : World) : Type 0 where
  pub after : new ≡ after_edit edit old
  pub back : Undoes undo new old
  pub light : undo_weight undo ≤ edit_weight edit
