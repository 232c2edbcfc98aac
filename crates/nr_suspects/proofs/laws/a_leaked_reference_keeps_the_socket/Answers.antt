use Rattle.nr_suspects.proofs.ReferenceLemmas.{kept}
use Rattle.nr_suspects.proofs.laws.a_leaked_reference_keeps_the_socket.Goals as goal

pub returns : goal.returns
returns c = kept
