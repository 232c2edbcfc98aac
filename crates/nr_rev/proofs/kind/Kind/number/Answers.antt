use Rattle.std.proofs.Common.{rules}
use Rattle.nr_rev.proofs.kind.Kind.number.Goals as goal

pub returns-clause-value : goal.returns-clause-value
returns-clause-value c = search rules
