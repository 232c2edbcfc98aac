use Rattle.std.proofs.Common.{rules}
use Rattle.nr_text.proofs.sink.Sink.print.Goals as goal

pub returns-in-Ok : goal.returns-in-Ok
returns-in-Ok c = search rules
