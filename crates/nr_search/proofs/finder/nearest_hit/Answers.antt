use Rattle.std.proofs.Common.{◌+◌, sym, subst, rules}
use Rattle.std.specs.Prelude.{IfOk}
use Rattle.nr_marks.specs.Hit.{hits_at}
use Rattle.nr_marks.specs.Auxiliary.Numbered.{RisesWithin, numbers_of}
use Rattle.nr_search.specs.Auxiliary.Nearest.{IsFound, Rises}
use Rattle.nr_search.specs.declared.direction.Direction.TheVariants.{Forward}
use Rattle.nr_search.proofs.FinderLemmas.{if-found-backward, if-found-forward, if-rises, nearest-rises, nothing-found}
use Rattle.nr_search.proofs.finder.nearest_hit.Goals as goal

pub returns-then-is_empty-clause-found : goal.returns-then-is_empty-clause-found
returns-then-is_empty-clause-found g c =
    nothing-found c.args.film.now.recording c.args.marks.now.present c.args.n c.args.direction (search rules) c.requires

pub returns-in-Forward-clause-found : goal.returns-in-Forward-clause-found
returns-in-Forward-clause-found g c =
    let r = c.args.film.now.recording in
    let hits = hits_at r c.args.marks.now.present in
    if-found-forward r c.args.marks.now.present c.args.n c.args.direction c.search_between.result c.in-Forward.is c.requires
    (subst (λ last. IfOk c.search_between.result (IsFound Forward hits (c.args.n + 1) (last + 1))) c.len.ensures.is c.search_between.ensures.found)

pub returns-in-Backward-clause-found : goal.returns-in-Backward-clause-found
returns-in-Backward-clause-found g c =
    if-found-backward c.args.film.now.recording c.args.marks.now.present c.args.n c.args.direction c.last_hit_below.result c.in-Backward.is c.last_hit_below.ensures.found

pub returns-in-Forward-clause-marks : goal.returns-in-Forward-clause-marks
returns-in-Forward-clause-marks g c = search rules

-- the numbers in the result are ascending because those of the marks are
pub returns-then-not-any_watch-clause-rising : goal.returns-then-not-any_watch-clause-rising
returns-then-not-any_watch-clause-rising g c =
    let made = c.args.marks.now.made in
    subst (Rises made) (sym c.nearest_step.ensures)
    (nearest-rises c.args.direction c.args.film.now.recording c.args.marks.now.present made c.args.n c.requires
    (subst (λ ms. RisesWithin 0 (numbers_of ms) made) c.as_slice.ensures.marks c.as_slice.ensures.rising))

pub returns-in-Forward-clause-rising : goal.returns-in-Forward-clause-rising
returns-in-Forward-clause-rising g c =
    if-rises c.args.direction c.args.film.now.recording c.args.marks.now.present c.args.marks.now.made c.args.n c.search_between.result c.requires
    (subst (λ ms. RisesWithin 0 (numbers_of ms) c.args.marks.now.made) c.as_slice.ensures.marks c.as_slice.ensures.rising) (returns-in-Forward-clause-found g c)

pub returns-in-Backward-clause-rising : goal.returns-in-Backward-clause-rising
returns-in-Backward-clause-rising g c =
    if-rises c.args.direction c.args.film.now.recording c.args.marks.now.present c.args.marks.now.made c.args.n c.last_hit_below.result c.requires
    (subst (λ ms. RisesWithin 0 (numbers_of ms) c.args.marks.now.made) c.as_slice.ensures.marks c.as_slice.ensures.rising) (returns-in-Backward-clause-found g c)
