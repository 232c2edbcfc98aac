use Rattle.std.proofs.Common.{◌≡◌, ◌+◌, ◌-◌, ◌<◌, refl, sym, ap, ◌∙◌, subst, arith}
use Rattle.nr_marks.specs.Hit.{hits_at}
use Rattle.nr_search.specs.Nearest.{found_after}
use Rattle.nr_search.specs.Auxiliary.Nearest.{IsFound}
use Rattle.nr_search.specs.declared.direction.Direction.TheVariants.{Backward}
use Rattle.nr_search.proofs.NearestLemmas.{found-before-start, found-to-start}
use Rattle.nr_search.proofs.finder.last_hit_below.Goals as goal
use Rattle.nr_search.proofs.finder.last_hit_below.Goals.{then-not-is_hit, else-not-is_hit}

-- the result is a hit after the start, or else the result at the start
pub returns-clause-found : goal.returns-clause-found
returns-clause-found g c =
    let hits = hits_at c.args.film.now.recording c.args.marks.now.present in
    let n = c.args.n in
    let found = c.in_ok-found.found in
    let all : n - 1 + 1 ≡ n = omega (arith, c.if-n-eq0.false) in
    let some : 0 < n = omega (arith, c.if-n-eq0.false) in
    let behind : IsFound Backward hits 1 n found = subst (λ high. IsFound Backward hits 1 high found) all c.in_ok-found.ensures.found in
    elim c.if-not-is_hit.branch [
      | then-not-is_hit w ↦
          subst (IsFound Backward hits 0 n) (sym (w.found-is ∙ w.look_at.ensures ∙ ap (found_after found 0) w.hits_at_start.ensures))
          (found-to-start hits n found (hits 0) (sym c.is_hit.ensures ∙ w.if-not-is_hit.true) some refl behind)
      | else-not-is_hit w ↦ subst (IsFound Backward hits 0 n) (sym w.found-is) (found-before-start hits n found (sym c.is_hit.ensures ∙ w.if-not-is_hit.false) behind)
    ]
