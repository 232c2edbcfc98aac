use Rattle.nr_suspects.proofs.TryLemmas.{read_again, write_again}
use Rattle.nr_suspects.proofs.laws.a_socket_has_nothing_just_if_a_try_is_answered_again.Goals as goal

pub returns-clause-read : goal.returns-clause-read
returns-clause-read c = read_again

pub returns-clause-write : goal.returns-clause-write
returns-clause-write c = write_again
