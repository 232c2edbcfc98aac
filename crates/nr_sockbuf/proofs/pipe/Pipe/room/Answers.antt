use Rattle.std.proofs.Common.{rules}
use Rattle.nr_sockbuf.proofs.pipe.Pipe.room.Goals as goal

pub returns-clause-room : goal.returns-clause-room
returns-clause-room c = search rules
