use Rattle.std.proofs.Common.{rules}
use Rattle.nr_walker.proofs.walker.Walker.route.Goals as goal

pub returns-then-self-n-clause-is : goal.returns-then-self-n-clause-is
returns-then-self-n-clause-is g c = search rules

pub returns-then-n-self-2-clause-is : goal.returns-then-n-self-2-clause-is
returns-then-n-self-2-clause-is g c = search rules
