use Rattle.std.proofs.Common.{rules}
use Rattle.nr_command.proofs.value.send_cell.Goals as goal

pub returns : goal.returns
returns g c = search rules
