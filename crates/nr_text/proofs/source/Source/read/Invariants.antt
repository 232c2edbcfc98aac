-- Each read so far was interrupted and received nothing.
use Rattle.std.proofs.Common.{◌≡◌, false, List, [], length}
use Rattle.nr_text.specs.Streams.{Receives}
use Rattle.nr_text.specs.Moments.{Moment}
use Rattle.nr_text.specs.Auxiliary.Streams.{ReadsAt}
use Rattle.nr_text.proofs.source.Source.read.Given as goal

abbrev pub invariant-loop : goal.invariant-loop
invariant-loop g l =
    Receives l.fn.self l.self-inside.reader [] × (l.self-inside.failed ≡ l.fn.self.failed) × (l.self-inside.reader.failed ≡ l.fn.self.failed)
    × (l.fn.self.ended ≡ false → l.self-inside.reader.ended ≡ false)
    × ((moments : List Moment) × ReadsAt l.fn.self l.self-inside.reader l.replies moments × (length moments ≡ l.counter))
