use Rattle.nr_machine.proofs.world_core.Core.wake_any.Goals as goal

pub returns-in-Some-clause-back : goal.returns-in-Some-clause-back
returns-in-Some-clause-back c = rw c.in-Some.is c.wake.ensures.back
