use Rattle.std.proofs.Common.{rules}
use Rattle.nr_recording.proofs.steps.step_in.Goals as goal

pub returns-in_ok-number-in-IncrefClose-2-clause-found : goal.returns-in_ok-number-in-IncrefClose-2-clause-found
returns-in_ok-number-in-IncrefClose-2-clause-found c = search rules
