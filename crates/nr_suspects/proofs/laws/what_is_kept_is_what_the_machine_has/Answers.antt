use Rattle.nr_suspects.proofs.OpeningLemmas.{socket_is}
use Rattle.nr_suspects.proofs.PeerLemmas.{peer_is}
use Rattle.nr_suspects.proofs.laws.what_is_kept_is_what_the_machine_has.Goals as goal

pub returns-clause-peers : goal.returns-clause-peers
returns-clause-peers c = peer_is

pub returns-clause-sockets : goal.returns-clause-sockets
returns-clause-sockets c = socket_is
