use Rattle.std.proofs.Common.{rules}
use Rattle.nr_plain.proofs.world.PlainWorld.parkcommit.Goals as goal

pub returns-in-Wait : goal.returns-in-Wait
returns-in-Wait c = search rules
