use Rattle.std.proofs.Common.{rules}
use Rattle.nr_plain.proofs.transfers.read_answer.Goals as goal

pub returns-else-peer_closed : goal.returns-else-peer_closed
returns-else-peer_closed c = search rules
