use Rattle.std.proofs.Common.{rules}
use Rattle.nr_rev.proofs.kind.kinds_of_length.Goals as goal

pub returns-in-10 : goal.returns-in-10
returns-in-10 c = search rules
