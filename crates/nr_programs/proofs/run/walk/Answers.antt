use Rattle.std.proofs.Common.{inl, refl, rules}
use Rattle.nr_programs.proofs.WalkLemmas.{walks}
use Rattle.nr_programs.proofs.run.walk.Goals as goal

pub returns-in-Ok-answer_together : goal.returns-in-Ok-answer_together
returns-in-Ok-answer_together g c = inl (walks _ _ _ _ _ _ c.in-Ok.made.0 _ _ _ (search rules) (search rules) c.in-Ok-answer_together.ensures.serves refl)
