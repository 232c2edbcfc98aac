use Rattle.std.proofs.Common.{◌-◌, subst, arith}
use Rattle.nr_marks.specs.Hit.{hits_at}
use Rattle.nr_search.specs.Auxiliary.Nearest.{IsNearest, NoneHits}
use Rattle.nr_search.proofs.SegmentLemmas.{nth-within}
use Rattle.nr_search.proofs.StepLemmas.{missed-all, missed-more, nearest-is}
use Rattle.nr_search.proofs.steps.search_steps.Goals as goal

-- each position of the search is a position of the film
pub look_at_step-requires-clause-within : goal.look_at_step-requires-clause-within
look_at_step-requires-clause-within g c =
    let inside = nth-within c.args.direction c.args.low (c.args.high - c.args.low) c.loop-k.k c.loop-k-test.true in
    omega (arith, c.nth-position.ensures, inside, c.requires.order, c.requires.within)

pub returns-then-not-is_empty : goal.returns-then-not-is_empty
returns-then-not-is_empty g c =
    let r = c.args.film.now.recording in
    let p = c.nth-position.result in
    let here = c.look_at_step.new.hits.items in
    subst (λ ms. IsNearest c.args.direction (hits_at r ms) c.args.low c.args.high p here) c.as_slice-marks.ensures.marks
    (nearest-is (hits_at r c.as_slice-marks.result.now) c.args.direction c.args.low c.args.high c.loop-k.k p here c.loop-k-test.true c.nth-position.ensures c.look_at_step.ensures (grind arith)
    c.loop-k.invariant)

pub loop-k-preserved : goal.loop-k-preserved
loop-k-preserved g c =
    missed-more (hits_at c.args.film.now.recording c.as_slice-marks.result.now) c.args.direction c.args.low c.args.high c.loop-k.k c.nth-position.result c.look_at_step.new.hits.items
    c.nth-position.ensures c.look_at_step.ensures (grind arith) c.loop-k.invariant

pub returns : goal.returns
returns g c =
    subst (λ ms. NoneHits (hits_at c.args.film.now.recording ms) c.args.low c.args.high) c.as_slice-marks.ensures.marks
    (missed-all (hits_at c.args.film.now.recording c.as_slice-marks.result.now) c.args.direction c.args.low c.args.high c.loop-k.k c.loop-k-test.false c.loop-k.invariant)
