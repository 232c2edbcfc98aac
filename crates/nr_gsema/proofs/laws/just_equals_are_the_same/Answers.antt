use Rattle.nr_gsema.proofs.StatusLemmas.{just_equals}
use Rattle.nr_gsema.proofs.laws.just_equals_are_the_same.Goals as goal

pub returns : goal.returns
returns c = just_equals
