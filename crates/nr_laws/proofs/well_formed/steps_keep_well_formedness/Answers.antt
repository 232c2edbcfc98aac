use Rattle.nr_laws.proofs.StepKeepsLemmas.{step_keeps}
use Rattle.nr_laws.proofs.well_formed.steps_keep_well_formedness.Goals as goal

pub returns : goal.returns
returns c = step_keeps
