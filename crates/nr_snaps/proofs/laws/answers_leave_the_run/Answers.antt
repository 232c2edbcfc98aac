use Rattle.std.proofs.Common.{ap}
use Rattle.nr_rev.specs.World.{empty_world}
use Rattle.nr_snaps.proofs.AnswerLemmas.{answered_steps-run}
use Rattle.nr_snaps.proofs.laws.answers_leave_the_run.Goals as goal

pub returns : goal.returns
returns c r = ap (λ steps. record r { steps = steps }) (answered_steps-run (empty_world r.limits) r.steps)
