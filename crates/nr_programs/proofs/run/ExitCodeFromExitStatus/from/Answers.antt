use Rattle.std.proofs.Common.{rules}
use Rattle.nr_programs.proofs.run.ExitCodeFromExitStatus.from.Goals as goal

pub returns : goal.returns
returns c = search rules
