use Rattle.nr_programs.proofs.SharedLemmas.{shared_answered}
use Rattle.nr_programs.proofs.laws.callers_are_answered_in_one_history.Goals as goal

pub returns-clause-answered : goal.returns-clause-answered
returns-clause-answered c = λ r room fronts depth workers passed history failed shared. shared_answered r room fronts depth workers passed history failed shared

pub returns-clause-theirs : goal.returns-clause-theirs
returns-clause-theirs c = λ r room fronts depth workers passed history failed shared. shared.one_history.theirs
