use Rattle.std.proofs.Common.{rules}
use Rattle.nr_programs.proofs.run.ExitStatus.code.Goals as goal

pub returns-in-Usage : goal.returns-in-Usage
returns-in-Usage c = search rules
