use Rattle.std.proofs.Common.{rules}
use Rattle.nr_recording.proofs.steps.step_value.Goals as goal

pub returns-in-SockOpen : goal.returns-in-SockOpen
returns-in-SockOpen c = search rules

pub returns-in-IncrefClose : goal.returns-in-IncrefClose
returns-in-IncrefClose c = search rules
