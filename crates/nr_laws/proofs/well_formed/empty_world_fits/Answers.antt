use Rattle.nr_laws.proofs.EmptyWorldLemmas.{empty_world_fits}
use Rattle.nr_laws.proofs.well_formed.empty_world_fits.Goals as goal

pub returns : goal.returns
returns c = empty_world_fits
