use Rattle.std.proofs.Common.{rules}
use Rattle.nr_gsema.proofs.operations.is_movable.Goals as goal

pub returns : goal.returns
returns c = search rules
