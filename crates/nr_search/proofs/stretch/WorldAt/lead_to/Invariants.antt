use Rattle.nr_snaps.specs.Film.{IsFrame}
use Rattle.nr_search.proofs.stretch.WorldAt.lead_to.Given as goal

-- the world is at position k
abbrev pub invariant-loop-k : goal.invariant-loop-k
invariant-loop-k g l = IsFrame g.W.Reversible.is_well_formed g.W.Worlds.world g.W.Reversible.steps l.film l.k l.world
