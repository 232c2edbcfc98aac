use Rattle.std.proofs.Common.{rules}
use Rattle.nr_walker.proofs.walker.Walker.goto.Goals as goal

pub returns-in_ok-forward_to-in-FromCopy-clause-moved : goal.returns-in_ok-forward_to-in-FromCopy-clause-moved
returns-in_ok-forward_to-in-FromCopy-clause-moved g c = search rules

pub returns-in-Back-clause-moved : goal.returns-in-Back-clause-moved
returns-in-Back-clause-moved g c = search rules
