use Rattle.nr_laws.proofs.StepKeepsLemmas.{none_corrupted}
use Rattle.nr_laws.proofs.well_formed.no_step_finds_corruption.Goals as goal

pub returns : goal.returns
returns c = none_corrupted
