use Rattle.std.proofs.Common.{◌≡◌, ◌+◌, false}
use Rattle.nr_marks.specs.Hit.{hits_at}
use Rattle.nr_search.specs.Auxiliary.Nearest.{IsFound}
use Rattle.nr_search.specs.Search.{Remembers, is_decided}
use Rattle.nr_snaps.specs.Film.{IsFrame}
use Rattle.nr_search.proofs.stretch.search_stretch.Given as goal

-- the world is at n, its watched values are remembered, and the search has visited all positions up
-- to n
abbrev pub invariant-loop-n : goal.invariant-loop-n
invariant-loop-n g l =
    record {
      frame : IsFrame g.W.Reversible.is_well_formed g.W.Worlds.world g.W.Reversible.steps l.film l.n l.world;
      remembers : Remembers (g.W.Worlds.world l.world) l.marks l.values;
      found : IsFound l.direction (hits_at l.film.recording l.marks) (l.at + 1) (l.n + 1) l.found;
      undecided : is_decided l.direction l.found ≡ false;
    }
