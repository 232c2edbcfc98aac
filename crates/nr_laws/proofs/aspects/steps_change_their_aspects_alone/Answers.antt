use Rattle.nr_laws.proofs.AspectStepLemmas.{step_keeps_cell}
use Rattle.nr_laws.proofs.aspects.steps_change_their_aspects_alone.Goals as goal

pub returns : goal.returns
returns c = step_keeps_cell
