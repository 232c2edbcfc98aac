use Rattle.std.proofs.Common.{rules}
use Rattle.nr_plain.proofs.transfers.writable.Goals as goal

pub returns-clause-bytes : goal.returns-clause-bytes
returns-clause-bytes c = search rules
