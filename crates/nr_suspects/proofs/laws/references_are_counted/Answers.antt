use Rattle.nr_suspects.proofs.ReferenceLemmas.{run_counted}
use Rattle.nr_suspects.proofs.laws.references_are_counted.Goals as goal

pub returns : goal.returns
returns c = run_counted
