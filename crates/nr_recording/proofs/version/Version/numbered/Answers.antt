use Rattle.std.proofs.Common.{rules}
use Rattle.nr_recording.proofs.version.Version.numbered.Goals as goal

pub returns-in-1 : goal.returns-in-1
returns-in-1 c = search rules
