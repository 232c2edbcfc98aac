use Rattle.std.proofs.Common.{◌≡◌, Some, subst, sym}
use Rattle.nr_rev.specs.Run.{Recording}
use Rattle.nr_snaps.specs.Answers.{answer_at}
use Rattle.nr_programs.proofs.AcceptedLemmas.{is_a_run}
use Rattle.nr_programs.proofs.laws.an_accepted_recording_is_a_run.Goals as goal

pub returns-clause-runs : goal.returns-clause-runs
returns-clause-runs c = λ bytes r n step good read. is_a_run bytes r n step good read

pub returns-clause-answers : goal.returns-clause-answers
returns-clause-answers c = λ bytes r n given good gives. good.answers n given (subst (λ (run : Recording). answer_at run n ≡ Some given) (sym good.run) gives)
