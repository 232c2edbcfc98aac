use Rattle.std.proofs.Common.{rules}
use Rattle.nr_plain.proofs.change.timer_reset.Goals as goal

pub returns : goal.returns
returns c = search rules
