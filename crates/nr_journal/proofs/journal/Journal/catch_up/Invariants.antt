use Rattle.std.proofs.Common.{◌≡◌, ◌-◌, length}
use Rattle.nr_journal.specs.Pass.{SeesOthers}
use Rattle.nr_journal.specs.Rule.{journal_room}
use Rattle.nr_journal.proofs.journal.Journal.catch_up.Given as goal

abbrev pub invariant-loop : goal.invariant-loop
invariant-loop l = (l.pass.table ≡ l.fn.pass.table) × SeesOthers l.fn.pass.pass_state l.pass.pass_state × (l.pass.pass_state.looks ≡ l.fn.pass.pass_state.looks)

abbrev pub decreases-loop : goal.decreases-loop
decreases-loop l = journal_room l.self - length l.pass.pass_state.seen
