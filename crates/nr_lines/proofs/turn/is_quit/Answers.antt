use Rattle.std.proofs.Common.{rules}
use Rattle.nr_lines.proofs.turn.is_quit.Goals as goal

pub returns-in-Ok : goal.returns-in-Ok
returns-in-Ok c = search rules
