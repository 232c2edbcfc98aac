use Rattle.std.proofs.Common.{rules}
use Rattle.nr_marks.proofs.marks.Marks.add_watch.Goals as goal

pub returns-clause-marks : goal.returns-clause-marks
returns-clause-marks c = search rules
