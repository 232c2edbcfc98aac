use Rattle.std.proofs.Common.{rules}
use Rattle.nr_gsema.proofs.table.GTable.unrelease_semaphore.Goals as goal

pub returns-in-Some : goal.returns-in-Some
returns-in-Some c = search rules
