use Rattle.std.proofs.Common.{rules}
use Rattle.nr_marks.proofs.numbered.NumberedList.as_slice.Goals as goal

pub returns-clause-items : goal.returns-clause-items
returns-clause-items g c = search rules

pub returns-clause-few : goal.returns-clause-few
returns-clause-few g c = search rules
