use Rattle.std.proofs.Common.{rules}
use Rattle.nr_machine.proofs.FreshLemmas.{fresh_fits}
use Rattle.nr_machine.proofs.world_core.Core.with_room.Goals as goal

pub returns-clause-fits : goal.returns-clause-fits
returns-clause-fits c =
    fresh_fits c.args.limits _ (search rules) c.requires c.apply.ensures.well_formed c.in_ok-with_limits.ensures.well_formed
