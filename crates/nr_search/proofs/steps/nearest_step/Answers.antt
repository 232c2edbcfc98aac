use Rattle.std.proofs.Common.{◌+◌, sym, ap, ◌∙◌, subst}
use Rattle.nr_marks.specs.Hit.{hits_at}
use Rattle.nr_search.specs.Nearest.{nearest_hit}
use Rattle.nr_search.specs.Auxiliary.Nearest.{IsFound}
use Rattle.nr_search.specs.declared.direction.Direction.TheVariants.{Forward}
use Rattle.nr_search.proofs.FinderLemmas.{forward-found}
use Rattle.nr_search.proofs.NearestLemmas.{last_hit_below-found}
use Rattle.nr_search.proofs.steps.nearest_step.Goals as goal

pub returns-in-Forward : goal.returns-in-Forward
returns-in-Forward g c =
    let r = c.args.film.now.recording in
    let marks = c.args.marks.now.present in
    forward-found r marks c.args.n c.requires.within c.search_steps.result
    (subst (λ last. IsFound Forward (hits_at r marks) (c.args.n + 1) (last + 1) c.search_steps.result) c.len-last.ensures.is c.search_steps.ensures)
    ∙ ap (λ d. nearest_hit d r marks c.args.n) (sym c.in-Forward.is)

pub returns-in-Backward : goal.returns-in-Backward
returns-in-Backward g c =
    let r = c.args.film.now.recording in
    let marks = c.args.marks.now.present in
    last_hit_below-found (hits_at r marks) c.args.n c.search_steps-in-Backward.result c.search_steps-in-Backward.ensures ∙ ap (λ d. nearest_hit d r marks c.args.n) (sym c.in-Backward.is)
