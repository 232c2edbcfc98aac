use Rattle.nr_timers.proofs.DescriptorLemmas.{first_before}
use Rattle.nr_timers.proofs.laws.the_first_is_the_least.Goals as goal

pub returns : goal.returns
returns c = first_before
