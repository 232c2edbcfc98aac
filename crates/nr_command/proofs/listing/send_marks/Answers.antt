use Rattle.std.proofs.Common.{rules}
use Rattle.nr_command.proofs.listing.send_marks.Goals as goal

pub returns : goal.returns
returns g c = search rules
