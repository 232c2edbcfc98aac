use Rattle.nr_machine.specs.Auxiliary.Changing.{IfAny, WakeBack}
use Rattle.nr_machine.specs.DeltaLaws.{wakes_one}
use Rattle.nr_machine.proofs.BackLemmas.{then_next}
use Rattle.nr_machine.proofs.world_core.Core.unwake_both.Goals as goal

pub unwake_any-requires-2 : goal.unwake_any-requires-2
unwake_any-requires-2 c =
    then_next (IfAny WakeBack c.args.woken.write) (IfAny WakeBack c.args.woken.read) (wakes_one c.args.woken.write) c.args.self.now c.unwake_any.new.self
    c.requires c.unwake_any.ensures
