use Rattle.std.proofs.Common.{rules}
use Rattle.nr_serving.proofs.session.open_front.Goals as goal

pub returns-in-Ok-clause-fresh : goal.returns-in-Ok-clause-fresh
returns-in-Ok-clause-fresh g c = search rules
