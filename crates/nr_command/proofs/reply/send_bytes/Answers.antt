use Rattle.std.proofs.Common.{rules}
use Rattle.nr_command.proofs.reply.send_bytes.Goals as goal

pub returns : goal.returns
returns g c = search rules
