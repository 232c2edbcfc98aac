use Rattle.std.proofs.Common.{rules}
use Rattle.nr_desc.proofs.reversible.DescReversible.undo.Goals as goal

pub returns : goal.returns
returns c = search rules
