use Rattle.std.proofs.Common.{rules}
use Rattle.nr_plain.proofs.world.PlainWorld.revert.Goals as goal

pub returns-in-Arming : goal.returns-in-Arming
returns-in-Arming c = search rules

pub returns-in-Status : goal.returns-in-Status
returns-in-Status c = search rules
