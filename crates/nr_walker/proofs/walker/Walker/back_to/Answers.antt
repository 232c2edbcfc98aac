use Rattle.std.proofs.Common.{rules}
use Rattle.nr_walker.proofs.walker.Walker.back_to.Goals as goal

pub returns : goal.returns
returns g c = search rules
