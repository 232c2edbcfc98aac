use Rattle.std.proofs.Common.{arith}
use Rattle.nr_walker.proofs.PlaceLemmas.{before-other}
use Rattle.nr_walker.proofs.places.place_before.Goals as goal

pub returns-else-place-eq0 : goal.returns-else-place-eq0
returns-else-place-eq0 c = λ position some at.
    let other = c.if-place-eq0.false in
    before-other position c.args.depth c.args.place some at (omega (arith, other))
