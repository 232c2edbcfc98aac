use Rattle.std.proofs.Common.{rules}
use Rattle.nr_plain.proofs.change.change_by_evict.Goals as goal

pub returns : goal.returns
returns c = search rules
