use Rattle.std.proofs.Common.{rules}
use Rattle.nr_journal.proofs.laws.nothing_is_hidden.Goals as goal

pub returns : goal.returns
returns c = search rules
