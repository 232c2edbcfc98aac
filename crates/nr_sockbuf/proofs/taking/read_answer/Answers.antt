use Rattle.std.proofs.Common.{rules}
use Rattle.nr_sockbuf.proofs.taking.read_answer.Goals as goal

pub returns-then-peer_closed : goal.returns-then-peer_closed
returns-then-peer_closed c = search rules
