use Rattle.nr_timers.proofs.DescriptorLemmas.{as_many, first_is_least}
use Rattle.nr_timers.proofs.laws.entries_are_the_descriptors.Goals as goal

pub returns-clause-count : goal.returns-clause-count
returns-clause-count c = as_many

pub returns-clause-least : goal.returns-clause-least
returns-clause-least c = first_is_least
