use Rattle.std.proofs.Common.{◌≤◌, ◌*◌, ◌-◌, ℕ, List, length}
use Rattle.std.specs.Io.KnownBytes.{Consumes}
use Rattle.nr_serving.specs.declared.connection.TheConstants.{AT_ONCE, MOST_READS}
use Rattle.nr_serving.proofs.connection.read_away.Given as goal

-- the bytes that were read so far
abbrev pub invariant-loop-reads : goal.invariant-loop-reads
invariant-loop-reads g l =
    (l.reads ≤ MOST_READS)
    × ((bytes : List ℕ) × Consumes (g.R.Read.remaining l.initial.reader) (g.R.Read.remaining l.reader) bytes × (length bytes ≤ l.reads * AT_ONCE))

abbrev pub decreases-loop-reads : goal.decreases-loop-reads
decreases-loop-reads g l = MOST_READS - l.reads
