use Rattle.std.proofs.Common.{rules}
use Rattle.nr_search.proofs.stretch.world_at.Goals as goal

pub returns-in-Some : goal.returns-in-Some
returns-in-Some g c = search rules
