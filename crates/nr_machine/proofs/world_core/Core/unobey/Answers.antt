use Rattle.nr_machine.specs.Auxiliary.Changing.{IfAny, TimersBack}
use Rattle.nr_machine.specs.DeltaLaws.{orders_one}
use Rattle.nr_machine.proofs.BackLemmas.{then_next}
use Rattle.nr_machine.proofs.world_core.Core.unobey.Goals as goal

pub unorder-requires-2 : goal.unorder-requires-2
unorder-requires-2 c =
    then_next (IfAny TimersBack c.args.orders.write) (IfAny TimersBack c.args.orders.read) (orders_one c.args.orders.write) c.args.self.now c.unorder.new.self
    c.requires c.unorder.ensures
