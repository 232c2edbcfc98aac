use Rattle.std.proofs.Common.{rules}
use Rattle.nr_marks.proofs.marks.Marks.add.Goals as goal

pub returns-clause-number : goal.returns-clause-number
returns-clause-number c = search rules
