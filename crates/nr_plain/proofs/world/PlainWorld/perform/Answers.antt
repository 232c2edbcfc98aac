use Rattle.std.proofs.Common.{rules}
use Rattle.nr_plain.proofs.world.PlainWorld.perform.Goals as goal

pub returns-in-GiveFree : goal.returns-in-GiveFree
returns-in-GiveFree c = search rules
