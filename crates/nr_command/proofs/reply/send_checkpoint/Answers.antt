use Rattle.std.proofs.Common.{append_assoc}
use Rattle.nr_command.proofs.reply.send_checkpoint.Goals as goal

pub returns : goal.returns
returns g c = simp append_assoc (rw c.from.ensures at c.send_all.ensures)
