use Rattle.std.proofs.Common.{◌+◌, sym, ◌∙◌, subst, arith}
use Rattle.nr_marks.specs.Hit.{hits_at}
use Rattle.nr_search.specs.Auxiliary.Nearest.{IsFound}
use Rattle.nr_search.proofs.NearestLemmas.{found-decided, found-then, found-whole}
use Rattle.nr_search.proofs.stretch.search_stretch.Goals as goal

-- if the result is decided after the next position, it is the result for the whole stretch
pub returns-then-is_decided-clause-found : goal.returns-then-is_decided-clause-found
returns-then-is_decided-clause-found g c =
    let r = c.args.film.now.recording in
    let hits = hits_at r c.as_slice-marks.result.now in
    let low = c.args.at + 1 in
    let here = c.loop-n.n + 1 in
    let i = c.loop-n.invariant in
    let found = found-then hits c.args.direction low here c.loop-n.found c.look_at.new.self c.advance_finding_hits.new.hits.items i.undecided (omega arith) c.advance_finding_hits.ensures.hits i.found c.look_at.ensures in
    subst (λ ms. IsFound c.args.direction (hits_at r ms) low (c.args.to + 1) c.look_at.new.self) c.as_slice-marks.ensures.marks
    (found-decided hits c.args.direction low (here + 1) (c.args.to + 1) c.look_at.new.self (sym c.is_decided.ensures ∙ c.if-is_decided.true) (omega arith) found)

pub loop-n-preserved : goal.loop-n-preserved
loop-n-preserved g c =
    let hits = hits_at c.args.film.now.recording c.as_slice-marks.result.now in
    let i = c.loop-n.invariant in
    record {
      frame = c.advance_finding_hits.ensures.frame;
      remembers = c.advance_finding_hits.ensures.values;
      found = found-then hits c.args.direction (c.args.at + 1) (c.loop-n.n + 1) c.loop-n.found c.look_at.new.self c.advance_finding_hits.new.hits.items i.undecided (omega arith) c.advance_finding_hits.ensures.hits i.found
          c.look_at.ensures;
      undecided = sym c.is_decided.ensures ∙ c.if-is_decided.false;
    }

pub returns-clause-found : goal.returns-clause-found
returns-clause-found g c =
    let r = c.args.film.now.recording in
    subst (λ ms. IsFound c.args.direction (hits_at r ms) (c.args.at + 1) (c.args.to + 1) c.loop-n.found) c.as_slice-marks.ensures.marks
    (found-whole (hits_at r c.as_slice-marks.result.now) c.args.direction (c.args.at + 1) (c.loop-n.n + 1) (c.args.to + 1) c.loop-n.found (omega arith) c.loop-n.invariant.found)
