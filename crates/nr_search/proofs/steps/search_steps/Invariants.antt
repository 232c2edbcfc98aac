use Rattle.nr_marks.specs.Hit.{hits_at}
use Rattle.nr_search.proofs.StepLemmas.{AreMissed}
use Rattle.nr_search.proofs.steps.search_steps.Given as goal

-- no mark hits at the positions searched so far
abbrev pub invariant-loop-k : goal.invariant-loop-k
invariant-loop-k g l = AreMissed (hits_at l.film.recording l.marks) l.direction l.low l.high l.k
