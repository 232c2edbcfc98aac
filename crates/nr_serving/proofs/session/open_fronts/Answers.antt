use Rattle.std.proofs.Common.{◌≡◌, ◌≤◌, ◌∙◌, ap, sym, subst, arith, rules}
use Rattle.std.specs.List.{All}
use Rattle.std.proofs.lemmas.List.Elements.{All-push}
use Rattle.nr_journal.specs.Seat.{Left}
use Rattle.nr_serving.specs.Session.{numbers_below}
use Rattle.nr_serving.specs.Auxiliary.Session.{IsFresh}
use Rattle.nr_serving.proofs.HistoryLemmas.{numbers_more}
use Rattle.nr_serving.proofs.session.open_fronts.Goals as goal

-- another front was opened; this front is new, and its tag is its number
pub loop-preserved : goal.loop-preserved
loop-preserved g c =
    let i = c.loop.invariant in
    record {
      table = ap (λ (w : Left). w.table) c.open_front.ensures.left ∙ i.table;
      same = ap (λ (w : Left). w.passes) c.open_front.ensures.left ∙ i.same;
      next = (let given = ap (λ (w : Left). w.next) c.open_front.ensures.left in omega (arith, given, i.next));
      fresh = subst (All (IsFresh c.args.journal.now c.args.film.now.recording c.args.shape.fronts c.args.shape.depth (g.F.Finder.count c.args.finder))) (sym c.push_reserved.ensures.items)
          (All-push (IsFresh c.args.journal.now c.args.film.now.recording c.args.shape.fronts c.args.shape.depth (g.F.Finder.count c.args.finder)) _ _ i.fresh
          (subst (λ n. IsFresh c.args.journal.now c.args.film.now.recording n c.args.shape.depth (g.F.Finder.count c.args.finder) c.in_ok-front.front) i.same c.in_ok-front.ensures.fresh));
      tags = numbers_more (λ f. f.pass_state.tag) _ _ _ _ c.push_reserved.ensures.items i.tags (c.in_ok-front.ensures.tag ∙ i.next);
      count = omega (arith, c.push_reserved.ensures.len, i.count);
      within = omega (arith, c.loop-test.true);
      room = subst (λ n. c.args.shape.fronts ≤ n) (sym c.push_reserved.ensures.capacity) i.room;
    }

pub loop-init : goal.loop-init
loop-init g c = search rules

-- the tags of all fronts are their numbers
pub returns-clause-tags : goal.returns-clause-tags
returns-clause-tags g c =
    let i = c.loop.invariant in
    let whole : c.loop.counter ≡ c.args.shape.fronts = omega (arith, i.within, c.loop.auto.counter-end, c.loop-test.false) in
    i.tags ∙ ap numbers_below whole
