use Rattle.std.proofs.Common.{◌≡◌, ◌-◌}
use Rattle.std.specs.Prelude.{vec_capacity, vec_len}
use Rattle.nr_walker.proofs.places.make_places.Given as goal

-- the room stays
abbrev pub invariant-loop-places : goal.invariant-loop-places
invariant-loop-places g l = vec_capacity l.places ≡ vec_capacity l.initial.places

abbrev pub decreases-loop-places : goal.decreases-loop-places
decreases-loop-places g l = l.count - vec_len l.places
