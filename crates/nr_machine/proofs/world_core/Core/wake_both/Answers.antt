use Rattle.nr_machine.proofs.WakeLemmas.{first_can, next_can}
use Rattle.nr_machine.proofs.world_core.Core.wake_both.Goals as goal

pub wake_any-requires-clause-there : goal.wake_any-requires-clause-there
wake_any-requires-clause-there c = first_can c.args.descriptor c.args.woken c.args.self.now c.requires

pub wake_any-requires-2-clause-there : goal.wake_any-requires-2-clause-there
wake_any-requires-2-clause-there c =
    next_can c.args.descriptor c.args.woken c.args.self.now c.wake_any.new.self c.requires c.wake_any.ensures.woken
