use Rattle.std.proofs.Common.{refl}
use Rattle.nr_machine.proofs.world_core.Core.obey.Goals as goal

pub returns-then-is_none-2-clause-back : goal.returns-then-is_none-2-clause-back
returns-then-is_none-2-clause-back c = rw c.twice.ensures (c.args.self.now, refl, refl)
