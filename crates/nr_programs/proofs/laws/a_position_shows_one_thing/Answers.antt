use Rattle.std.proofs.Common.{ap, Some}
use Rattle.nr_programs.proofs.AcceptedLemmas.{shows_one}
use Rattle.nr_programs.proofs.laws.a_position_shows_one_thing.Goals as goal

pub returns : goal.returns
returns c = λ r query s t looks same. ap Some (shows_one r query s.debugger t.debugger looks same)
