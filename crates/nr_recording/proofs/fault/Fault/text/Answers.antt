use Rattle.std.proofs.Common.{rules}
use Rattle.nr_recording.proofs.fault.Fault.text.Goals as goal

pub returns-in-Arguments : goal.returns-in-Arguments
returns-in-Arguments c = search rules
