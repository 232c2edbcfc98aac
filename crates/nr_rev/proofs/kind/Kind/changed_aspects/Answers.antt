use Rattle.std.proofs.Common.{rules}
use Rattle.nr_rev.proofs.kind.Kind.changed_aspects.Goals as goal

pub returns-in-Tick : goal.returns-in-Tick
returns-in-Tick c = search rules
