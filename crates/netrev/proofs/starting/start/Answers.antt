use Rattle.std.proofs.Common.{rules}
use Rattle.netrev.proofs.starting.start.Goals as goal

pub returns-clause-no_file : goal.returns-clause-no_file
returns-clause-no_file g c = search rules
