use Rattle.std.proofs.Common.{rules}
use Rattle.nr_recording.proofs.writing.write_line.Goals as goal

pub returns-clause-failed : goal.returns-clause-failed
returns-clause-failed g c = search rules
