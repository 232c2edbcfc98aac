use Rattle.std.proofs.Common.{rules}
use Rattle.nr_timers.proofs.timers.Timers.try_copy.Goals as goal

pub returns : goal.returns
returns c = search rules
