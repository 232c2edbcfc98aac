use Rattle.std.proofs.Common.{◌≡◌, ◌≤◌, map, vec_len, vec_capacity}
use Rattle.std.specs.List.{All}
use Rattle.nr_serving.specs.Session.{numbers_below}
use Rattle.nr_serving.specs.Auxiliary.Session.{IsFresh}
use Rattle.nr_serving.proofs.session.open_fronts.Given as goal

-- each front opened so far is new, and its tag is its number
abbrev pub invariant-loop : goal.invariant-loop
invariant-loop g l =
    record {
      table : l.passes.table ≡ l.journal;
      fresh : All (IsFresh l.journal l.film.recording l.shape.fronts l.shape.depth (g.F.Finder.count l.finder)) l.fronts.items;
      same : l.passes.passes ≡ l.shape.fronts;
      next : l.passes.next ≡ l.counter;
      tags : map (λ f. f.pass_state.tag) l.fronts.items ≡ numbers_below l.counter;
      count : vec_len l.fronts ≡ l.counter;
      within : l.counter ≤ l.shape.fronts;
      room : l.shape.fronts ≤ vec_capacity l.fronts;
    }
