use Rattle.std.proofs.Common.{rules}
use Rattle.nr_search.proofs.stretch.hits_at_start.Goals as goal

pub returns : goal.returns
returns g c = search rules
