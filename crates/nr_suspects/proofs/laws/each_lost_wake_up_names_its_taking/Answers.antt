use Rattle.nr_suspects.proofs.TakingLemmas.{names_taking}
use Rattle.nr_suspects.proofs.laws.each_lost_wake_up_names_its_taking.Goals as goal

pub returns : goal.returns
returns c = names_taking
