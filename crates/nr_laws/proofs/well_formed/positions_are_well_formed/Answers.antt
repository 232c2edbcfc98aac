use Rattle.nr_laws.proofs.PositionLemmas.{positions_fit}
use Rattle.nr_laws.proofs.well_formed.positions_are_well_formed.Goals as goal

pub returns : goal.returns
returns c = positions_fit
