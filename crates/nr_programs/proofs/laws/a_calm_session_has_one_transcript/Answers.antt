use Rattle.std.proofs.Common.{refl}
use Rattle.nr_programs.proofs.RepliesLemmas.{transcript_enough}
use Rattle.nr_programs.proofs.laws.a_calm_session_has_one_transcript.Goals as goal

pub returns-clause-calm : goal.returns-clause-calm
returns-clause-calm c = λ recording commands ended supplies all. transcript_enough recording ended commands supplies all

pub returns-clause-whole : goal.returns-clause-whole
returns-clause-whole c = λ recording commands. refl
