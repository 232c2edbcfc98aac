use Rattle.nr_refused.proofs.worlds.lead.Given as goal

abbrev pub invariant-loop-n : goal.invariant-loop-n
invariant-loop-n g l = g.W.Reversible.is_well_formed l.world
