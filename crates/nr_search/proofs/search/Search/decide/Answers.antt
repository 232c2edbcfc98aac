use Rattle.std.proofs.Common.{sym, ◌∙◌, subst, arith}
use Rattle.nr_marks.specs.Hit.{hits_at}
use Rattle.nr_search.specs.Known.{Agrees, IsFoundIn, slot_of}
use Rattle.nr_search.specs.Search.{nth_on_way}
use Rattle.nr_search.proofs.KnownLemmas.{nearer-next}
use Rattle.nr_search.proofs.SegmentLemmas.{passed-all, passed-hit, passed-next}
use Rattle.nr_search.proofs.search.Search.decide.Goals as goal

pub returns-then-is_hit-clause-found : goal.returns-then-is_hit-clause-found
returns-then-is_hit-clause-found g c =
    let search = c.args.self.now in
    let hits = hits_at search.film.now.recording search.marks.now.present in
    passed-hit hits search.span c.loop-k.k c.in_ok-found.found c.loop-k-test.true (sym c.is_hit.ensures ∙ c.if-is_hit.true) c.loop-k.invariant.passed
    (subst (λ s. IsFoundIn search.span hits s c.in_ok-found.found) c.nth-s.ensures c.in_ok-found.ensures.found)

pub loop-k-preserved : goal.loop-k-preserved
loop-k-preserved g c =
    let search = c.args.self.now in
    let hits = hits_at search.film.now.recording search.marks.now.present in
    record {
      passed = passed-next hits search.span c.loop-k.k c.in_ok-found.found c.loop-k-test.true (sym c.is_hit.ensures ∙ c.if-is_hit.false) c.loop-k.invariant.passed
          (subst (λ s. IsFoundIn search.span hits s c.in_ok-found.found) c.nth-s.ensures c.in_ok-found.ensures.found);
      nearer = nearer-next (slot_of c.args.known.now) (nth_on_way search.span.direction search.span.first search.span.count) c.loop-k.k c.in_ok-found.found c.loop-k.invariant.nearer
          (subst (λ s. Agrees (slot_of c.args.known.now s) c.in_ok-found.found) c.nth-s.ensures c.in_ok-found.ensures.agrees) (sym c.is_hit.ensures ∙ c.if-is_hit.false);
      held = c.decide_segment.ensures.held;
    }

pub returns-clause-found : goal.returns-clause-found
returns-clause-found g c =
    let search = c.args.self.now in
    let hits = hits_at search.film.now.recording search.marks.now.present in
    passed-all hits search.span c.loop-k.k (omega arith) c.loop-k.invariant.passed
