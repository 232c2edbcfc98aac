use Rattle.std.proofs.Common.{rules}
use Rattle.nr_plain.proofs.worlds.PlainWorldWorlds.try_copy.Goals as goal

pub returns : goal.returns
returns c = search rules
