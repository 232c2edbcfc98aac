use Rattle.std.proofs.Common.{rules}
use Rattle.nr_sockbuf.proofs.pipe.Pipe.lose.Goals as goal

pub returns : goal.returns
returns c = search rules
