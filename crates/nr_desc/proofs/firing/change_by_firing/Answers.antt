use Rattle.std.proofs.Common.{rules}
use Rattle.nr_desc.proofs.firing.change_by_firing.Goals as goal

pub returns-then-sequence-of-clause-viewed : goal.returns-then-sequence-of-clause-viewed
returns-then-sequence-of-clause-viewed c = search rules
