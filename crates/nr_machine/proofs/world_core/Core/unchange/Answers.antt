use Rattle.nr_machine.specs.Auxiliary.Changing.{DescBack, Then}
use Rattle.nr_machine.specs.Delta.{ObeyBack, WokenBack}
use Rattle.nr_machine.specs.DeltaLaws.{desc_one, woken_one}
use Rattle.nr_machine.proofs.BackLemmas.{then_next}
use Rattle.nr_machine.proofs.world_core.Core.unchange.Goals as goal

pub unobey-requires : goal.unobey-requires
unobey-requires c =
    then_next (DescBack c.args.desc) (ObeyBack c.args.timers) (desc_one c.args.desc) c.unwake_both.new.self c.undescribe.new.self
    (then_next (WokenBack c.args.woken) (Then (DescBack c.args.desc) (ObeyBack c.args.timers)) (woken_one c.args.woken) c.args.self.now c.unwake_both.new.self
    c.requires c.unwake_both.ensures)
    c.undescribe.ensures
