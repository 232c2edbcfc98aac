use Rattle.nr_suspects.proofs.ReadinessLemmas.{taken_by_three}
use Rattle.nr_suspects.proofs.laws.three_kinds_take_readiness.Goals as goal

pub returns : goal.returns
returns c = taken_by_three
