use Rattle.std.proofs.Common.{rules}
use Rattle.nr_rev.proofs.roomed_list.RoomedList.try_copy.Goals as goal

pub returns : goal.returns
returns c = search rules
