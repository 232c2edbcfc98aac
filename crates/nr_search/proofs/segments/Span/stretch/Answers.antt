use Rattle.std.proofs.Common.{arith}
use Rattle.nr_search.proofs.SegmentLemmas.{some-between}
use Rattle.nr_search.proofs.segments.Span.stretch.Goals as goal

pub returns-clause-order : goal.returns-clause-order
returns-clause-order c =
    let span = c.args.self.now in
    let some = some-between span.after span.last span.every span.first span.count c.args.s span.some span.begins span.enters span.needed c.requires.first c.requires.last in
    omega (arith, c.max.ensures, c.min.ensures, some)
