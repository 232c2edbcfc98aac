use Rattle.std.proofs.Common.{rules}
use Rattle.nr_sockbuf.proofs.sock.Sock.drain.Goals as goal

pub returns-then-len-count-clause-refusal : goal.returns-then-len-count-clause-refusal
returns-then-len-count-clause-refusal c = search rules
