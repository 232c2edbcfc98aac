use Rattle.std.proofs.Common.{rules}
use Rattle.nr_lock.proofs.reversible.LockWordReversible.undo.Goals as goal

pub returns : goal.returns
returns c = search rules
