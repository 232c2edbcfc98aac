use Rattle.nr_suspects.proofs.ShutLemmas.{after_shut_pipe, pipe_just_if, pipe_keeps, shut_just_if}
use Rattle.nr_suspects.proofs.laws.a_write_is_answered_pipe_just_if_its_side_is_shut.Goals as goal

pub returns-clause-pipe : goal.returns-clause-pipe
returns-clause-pipe c = pipe_just_if

pub returns-clause-nothing : goal.returns-clause-nothing
returns-clause-nothing c = pipe_keeps

pub returns-clause-shut : goal.returns-clause-shut
returns-clause-shut c = shut_just_if

pub returns-clause-later : goal.returns-clause-later
returns-clause-later c = after_shut_pipe
