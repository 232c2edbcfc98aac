use Rattle.std.proofs.Common.{rules}
use Rattle.nr_desc.proofs.deadline.timer_follows.Goals as goal

pub returns-clause-viewed : goal.returns-clause-viewed
returns-clause-viewed c = search rules
