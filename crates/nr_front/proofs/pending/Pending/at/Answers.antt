use Rattle.std.proofs.Common.{rules}
use Rattle.nr_front.proofs.pending.Pending.at.Goals as goal

pub returns-in-Some : goal.returns-in-Some
returns-in-Some c = search rules
