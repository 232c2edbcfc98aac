use Rattle.std.proofs.Common.{rules}
use Rattle.nr_plain.proofs.lock.incref_close.Goals as goal

pub returns : goal.returns
returns c = search rules
