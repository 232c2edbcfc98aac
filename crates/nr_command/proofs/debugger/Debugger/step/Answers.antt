use Rattle.std.proofs.Common.{rules}
use Rattle.nr_command.proofs.debugger.Debugger.step.Goals as goal

pub returns-in-Backward-2 : goal.returns-in-Backward-2
returns-in-Backward-2 c = search rules

pub returns-in-Forward : goal.returns-in-Forward
returns-in-Forward c = search rules

pub returns-in-Forward-2 : goal.returns-in-Forward-2
returns-in-Forward-2 c = search rules
