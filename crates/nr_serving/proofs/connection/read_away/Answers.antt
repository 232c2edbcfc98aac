use Rattle.std.proofs.Common.{arith}
use Rattle.nr_serving.proofs.ReadAwayLemmas.{took_more}
use Rattle.nr_serving.proofs.connection.read_away.Goals as goal

-- after another read
pub loop-reads-preserved : goal.loop-reads-preserved
loop-reads-preserved g c =
    let i = c.loop-reads.invariant in
    (omega (arith, c.loop-reads-test.true), took_more _ _ _ c.loop-reads.reads c.in-Ok.count c.read.new.buf i.1 c.in-Ok.ensures.bytes.0 c.in-Ok.ensures.bound.0 (omega arith))
