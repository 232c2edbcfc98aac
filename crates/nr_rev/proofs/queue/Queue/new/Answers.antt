use Rattle.std.proofs.Common.{rules}
use Rattle.nr_rev.proofs.queue.Queue.new.Goals as goal

pub returns : goal.returns
returns c = search rules
