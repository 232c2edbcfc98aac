use Rattle.std.proofs.Common.{rules}
use Rattle.nr_journal.proofs.journal.Journal.meet.Goals as goal

pub returns-clause-order : goal.returns-clause-order
returns-clause-order c = search rules

pub returns-clause-learned : goal.returns-clause-learned
returns-clause-learned c = search rules
