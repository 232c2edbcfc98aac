use Rattle.std.proofs.Common.{rules}
use Rattle.nr_plain.proofs.world.PlainWorld.pollclose.Goals as goal

pub returns-then-is_waited : goal.returns-then-is_waited
returns-then-is_waited c = search rules

pub returns : goal.returns
returns c = search rules
