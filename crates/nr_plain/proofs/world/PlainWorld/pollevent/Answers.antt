use Rattle.std.proofs.Common.{rules}
use Rattle.nr_plain.proofs.world.PlainWorld.pollevent.Goals as goal

pub returns : goal.returns
returns c = search rules
