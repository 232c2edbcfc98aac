use Rattle.std.proofs.Common.{rules}
use Rattle.nr_plain.proofs.change.change_by_firing.Goals as goal

pub returns : goal.returns
returns c = search rules
