-- Whether a goroutine holds a side of a socket's lock.
use Rattle.std.specs.Prelude.{ℕ, Bool, false, slice_get}
use Rattle.std.specs.Option.{option_map_or}
use Rattle.nr_rev.specs.declared.sides.Side.{Side}
use Rattle.nr_rev.specs.Sides.{of_side}
use Rattle.nr_rev.specs.Socket.{Socket}
use Rattle.nr_rev.specs.World.{World}

-- true if a side of socket s's lock is locked; false if the socket wasn't opened
abbrev pub is_locked : World → ℕ → Side → Bool
is_locked w s side =
    option_map_or (λ (socket : Socket). of_side side socket.lock.locked) (slice_get w.sockets s)
    false
