use Rattle.std.proofs.Common.{arith}
use Rattle.nr_walker.proofs.PlaceLemmas.{after-other}
use Rattle.nr_walker.proofs.places.place_after.Goals as goal

pub returns-else-place-depth-clause-is : goal.returns-else-place-depth-clause-is
returns-else-place-depth-clause-is c = λ position at.
    let other = c.if-place-depth.false in
    after-other position c.args.depth c.args.place at (omega (arith, other))
