use Rattle.std.proofs.Common.{rules}
use Rattle.nr_plain.proofs.world.PlainWorld.spawn.Goals as goal

pub returns-then-made-self : goal.returns-then-made-self
returns-then-made-self c = search rules

pub returns : goal.returns
returns c = search rules
