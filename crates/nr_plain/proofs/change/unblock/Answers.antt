use Rattle.std.proofs.Common.{rules}
use Rattle.nr_plain.proofs.change.unblock.Goals as goal

pub returns-in-Held : goal.returns-in-Held
returns-in-Held c = search rules
