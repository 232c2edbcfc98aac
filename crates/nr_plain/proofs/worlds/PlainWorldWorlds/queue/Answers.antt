use Rattle.std.proofs.Common.{rules}
use Rattle.nr_plain.proofs.worlds.PlainWorldWorlds.queue.Goals as goal

pub returns-clause-ok : goal.returns-clause-ok
returns-clause-ok c = search rules
