use Rattle.std.proofs.Common.{sym, ◌∙◌, rules}
use Rattle.nr_search.proofs.KnownLemmas.{searched-is_found}
use Rattle.nr_search.proofs.search.Search.decide_segment.Goals as goal

-- a result that is already known for the segment is correct
pub returns-in-Searched-clause-found : goal.returns-in-Searched-clause-found
returns-in-Searched-clause-found g c = searched-is_found c.args.s c.requires.known (sym c.slot_at.ensures ∙ c.in-Searched.is)

pub returns-in-Unknown-clause-found : goal.returns-in-Unknown-clause-found
returns-in-Unknown-clause-found g c = search rules

pub returns-in-Refused-clause-found : goal.returns-in-Refused-clause-found
returns-in-Refused-clause-found g c = search rules
