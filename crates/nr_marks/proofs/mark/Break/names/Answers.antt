use Rattle.std.proofs.Common.{rules}
use Rattle.nr_marks.proofs.mark.Break.names.Goals as goal

pub returns-in-Step : goal.returns-in-Step
returns-in-Step c = search rules
