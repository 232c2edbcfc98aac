-- Each write so far was interrupted and wrote nothing.
use Rattle.std.proofs.Common.{◌≡◌, ◌≤◌, []}
use Rattle.nr_text.specs.Streams.{Sends}
use Rattle.nr_text.proofs.buffered.write_some.Given as goal

abbrev pub invariant-loop : goal.invariant-loop
invariant-loop g l =
    Sends l.fn.writer.taken l.writer.taken [] × (l.writer.taken.failed ≡ l.fn.writer.taken.failed)
    × (l.counter ≤ l.writer.writes)
