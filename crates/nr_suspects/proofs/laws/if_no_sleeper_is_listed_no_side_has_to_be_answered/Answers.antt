use Rattle.nr_suspects.proofs.SleeperLemmas.{none_if_none}
use Rattle.nr_suspects.proofs.laws.if_no_sleeper_is_listed_no_side_has_to_be_answered.Goals as goal

pub returns : goal.returns
returns c = none_if_none
