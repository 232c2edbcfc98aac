use Rattle.nr_suspects.proofs.ReferenceLemmas.{decref_frees, rwunlock_frees}
use Rattle.nr_suspects.proofs.laws.a_socket_is_freed_without_references.Goals as goal

pub returns-clause-decref : goal.returns-clause-decref
returns-clause-decref c = decref_frees

pub returns-clause-rwunlock : goal.returns-clause-rwunlock
returns-clause-rwunlock c = rwunlock_frees
