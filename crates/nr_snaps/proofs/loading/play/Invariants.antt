use Rattle.nr_snaps.specs.Answers.{AnswersAgreeTo}
use Rattle.nr_snaps.specs.Film.{IsFrame}
use Rattle.nr_snaps.proofs.loading.play.Given as goal

-- the world is the frame at the position, and the steps applied so far gave their recorded answers
abbrev pub invariant-loop-n : goal.invariant-loop-n
invariant-loop-n g l = record {
  frame : IsFrame g.W.Reversible.is_well_formed g.W.Worlds.world g.W.Reversible.steps g.film l.n l.world;
  agree : AnswersAgreeTo l.recording l.n;
}
