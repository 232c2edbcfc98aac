use Rattle.nr_machine.proofs.FreshLemmas.{empty_is_world}
use Rattle.nr_machine.proofs.worlds.WorldWorlds.fresh.Goals as goal

pub returns-clause-well_formed : goal.returns-clause-well_formed
returns-clause-well_formed c =
    let core = c.in_ok-core.ensures in
    empty_is_world c.args.limits c.in_ok-core.core c.in_ok-socks.socks.items core.empty core.fits c.in_ok-socks.ensures
