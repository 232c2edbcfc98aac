use Rattle.std.proofs.Common.{rules}
use Rattle.nr_desc.proofs.change.DescChange.unblock.Goals as goal

pub returns-clause-viewed : goal.returns-clause-viewed
returns-clause-viewed c = search rules

pub returns-clause-woken : goal.returns-clause-woken
returns-clause-woken c = search rules
