use Rattle.std.proofs.Common.{rules}
use Rattle.nr_marks.proofs.mark.NextStep.at.Goals as goal

pub returns : goal.returns
returns c = search rules
