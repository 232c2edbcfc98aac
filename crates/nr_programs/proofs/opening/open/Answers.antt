use Rattle.std.proofs.Common.{sym, ap}
use Rattle.nr_programs.proofs.OpeningLemmas.{good_text}
use Rattle.nr_programs.proofs.opening.open.Goals as goal

pub returns-clause-film : goal.returns-clause-film
returns-clause-film g c =
    let loaded = c.in_ok-film.ensures in
    good_text _ _ _ c.in_ok-recording.ensures.found (sym (ap (λ f. f.recording) loaded.film)) loaded.good loaded.answers
