-- Facts about the buffers of a well-formed world.
use Rattle.std.proofs.Common.{◌≡◌, ℕ, ◌+◌, ◌≤◌, length, Some, arith}
use Rattle.std.specs.Prelude.{slice_get}
use Rattle.nr_rev.specs.declared.sides.Side.TheVariants.{Read, Write}
use Rattle.nr_rev.specs.Socket.{Socket, room_of}
use Rattle.nr_rev.specs.WellFormed.{WellFormed}
use Rattle.nr_rev.specs.World.{World}

-- the capacities of a socket are within the limit
pub capacity_within : (w : World) (s : ℕ) (socket : Socket) → WellFormed w → slice_get w.sockets s ≡ Some socket
    → (socket.buffers.read.capacity ≤ w.limits.buffer) × (socket.buffers.write.capacity ≤ w.limits.buffer)
capacity_within w s socket h at =
    let fits = h.sockets s socket at in
    ((fits.capacities Read).1, (fits.capacities Write).1)

-- if the output has room for n more bytes, writing them keeps it within the limit of the world
pub written_fits : (w : World) (s : ℕ) (socket : Socket) (n : ℕ) → WellFormed w → slice_get w.sockets s ≡ Some socket → n ≤ room_of socket.buffers.write
    → length socket.buffers.write.bytes + n ≤ w.limits.buffer
written_fits w s socket n h at room =
    let fits = h.sockets s socket at in
    let most = (fits.capacities Write).1 in
    let held = fits.bytes Write in
    omega (arith, room, most, held)
