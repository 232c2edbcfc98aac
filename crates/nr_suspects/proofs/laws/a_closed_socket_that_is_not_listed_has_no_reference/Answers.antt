use Rattle.nr_suspects.proofs.HeldReferenceLemmas.{unlisted_has_none}
use Rattle.nr_suspects.proofs.laws.a_closed_socket_that_is_not_listed_has_no_reference.Goals as goal

pub returns : goal.returns
returns c = unlisted_has_none
