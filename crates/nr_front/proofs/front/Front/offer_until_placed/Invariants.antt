-- Each offer so far failed, because another user's word was placed first. The front read and ran
-- that word.
use Rattle.std.proofs.Common.{◌≡◌, ◌-◌, length}
use Rattle.nr_journal.specs.Rule.{journal_room}
use Rattle.nr_front.specs.Front.{Learns}
use Rattle.nr_front.specs.Steps.{HasSeenAll}
use Rattle.nr_front.specs.declared.pending.Pending.TheVariants.{Nothing}
use Rattle.nr_front.proofs.front.Front.offer_until_placed.Given as goal

abbrev pub invariant-loop-self : goal.invariant-loop-self
invariant-loop-self g l = (l.self.table ≡ l.journal) × Learns l.fn.self l.self × (l.self.pending ≡ Nothing) × HasSeenAll l.self

abbrev pub decreases-loop-self : goal.decreases-loop-self
decreases-loop-self g l = journal_room l.journal - length l.self.pass_state.seen
