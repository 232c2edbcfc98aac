use Rattle.std.proofs.Common.{◌∙◌, sym}
use Rattle.nr_search.specs.Quiet.{IsQuiet}
use Rattle.nr_search.proofs.QuietLemmas.{all-missed, made-keeps, remembers-on}
use Rattle.nr_search.proofs.WatchedLemmas.{hits_at-next}
use Rattle.nr_search.proofs.stretch.advance_finding_hits.Goals as goal

pub returns-then-is_quiet-clause-hits : goal.returns-then-is_quiet-clause-hits
returns-then-is_quiet-clause-hits g c =
    let r = c.args.film.now.recording in
    let before = g.W.Worlds.world c.args.world.now in
    let after = g.W.Worlds.world c.advance.new.world in
    let quiet : IsQuiet c.args.marks.now c.next_step-made.result c.next_step-next.result = c.is_quiet.ensures c.if-is_quiet.true in
    let keeps = made-keeps r c.args.n quiet.step _ before after c.requires.frame.is_at.there c.advance.ensures.frame.is_at.there (sym quiet.is ∙ c.next_step-made.ensures) c.advance.ensures.answer in
    c.clear.ensures
    ∙ all-missed quiet.step c.next_step-next.result before after c.args.marks.now keeps quiet.unchanged quiet.unstopped
    ∙ hits_at-next r c.args.marks.now c.args.n before after c.next_step-next.result c.requires.frame.is_at.there c.advance.ensures.frame.is_at.there c.next_step-next.ensures

pub returns-then-is_quiet-clause-values : goal.returns-then-is_quiet-clause-values
returns-then-is_quiet-clause-values g c =
    let before = g.W.Worlds.world c.args.world.now in
    let after = g.W.Worlds.world c.advance.new.world in
    let quiet : IsQuiet c.args.marks.now c.next_step-made.result c.next_step-next.result = c.is_quiet.ensures c.if-is_quiet.true in
    let keeps = made-keeps c.args.film.now.recording c.args.n quiet.step _ before after c.requires.frame.is_at.there c.advance.ensures.frame.is_at.there (sym quiet.is ∙ c.next_step-made.ensures) c.advance.ensures.answer in
    remembers-on quiet.step before after c.args.marks.now _ keeps quiet.unchanged c.requires.values

pub returns-clause-hits : goal.returns-clause-hits
returns-clause-hits g c =
    let before = g.W.Worlds.world c.args.world.now in
    c.find_hits.ensures.hits before c.requires.values
    ∙ hits_at-next c.args.film.now.recording c.args.marks.now c.args.n before (g.W.Worlds.world c.advance.new.world) c.next_step-next.result
    c.requires.frame.is_at.there c.advance.ensures.frame.is_at.there c.next_step-next.ensures
