-- The empty world is well-formed.
use Rattle.std.proofs.Common.{◌<◌}
use Rattle.nr_rev.specs.declared.limits.Limits.{Limits}
use Rattle.nr_rev.specs.WellFormed.{WellFormed}
use Rattle.nr_rev.specs.World.{empty_world}
use Rattle.nr_laws.proofs.EmptyWorldLemmas.{empty_world_fits}

pub fresh_fits : (limits : Limits) → 0 < limits.goroutines → WellFormed (empty_world limits)
fresh_fits limits room = empty_world_fits limits room
