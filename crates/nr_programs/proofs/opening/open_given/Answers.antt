use Rattle.std.proofs.Common.{sym, ap, subst}
use Rattle.nr_recording.specs.Text.{IsTextOf}
use Rattle.nr_programs.proofs.OpeningLemmas.{good_text}
use Rattle.nr_programs.proofs.opening.open_given.Goals as goal

pub returns-clause-film : goal.returns-clause-film
returns-clause-film g c =
    let read = c.in_ok-recording.recording in
    let found = subst (λ bytes. IsTextOf bytes read) c.as_slice.ensures.value c.in_ok-recording.ensures.found in
    let loaded = c.in_ok-film.ensures in
    good_text _ _ _ found (sym (ap (λ f. f.recording) loaded.film)) loaded.good loaded.answers
