-- So far, each attempt to read found a word of another front, and its command was run.
use Rattle.std.proofs.Common.{◌≡◌, ◌-◌, length}
use Rattle.nr_journal.specs.Rule.{journal_room}
use Rattle.nr_front.specs.Front.{Learns}
use Rattle.nr_front.proofs.front.Front.catch_up.Given as goal

abbrev pub invariant-loop-self : goal.invariant-loop-self
invariant-loop-self g l = (l.self.table ≡ l.journal) × Learns l.fn.self l.self × (l.self.pass_state.looks ≡ l.fn.self.pass_state.looks)

abbrev pub decreases-loop-self : goal.decreases-loop-self
decreases-loop-self g l = journal_room l.journal - length l.self.pass_state.seen
