use Rattle.std.proofs.Common.{◌≡◌, inr, refl}
use Rattle.nr_programs.proofs.OpeningLemmas.{one_recording, prints_memory}
use Rattle.nr_programs.proofs.serving.serve_bytes.Goals as goal

pub returns-in-Ok-clause-good : goal.returns-in-Ok-clause-good
returns-in-Ok-clause-good g c = λ r is.
    let same : c.in-Ok.film.recording ≡ r = one_recording c.args.text.items c.in-Ok.film.recording r c.in-Ok.ensures.film is in
    rw (← same) c.share_film.ensures

pub returns-in-Err-clause-good : goal.returns-in-Err-clause-good
returns-in-Err-clause-good g c = λ r is.
    inr (inr (refl, prints_memory _ _ _ _ _ _ c.in-Err.ensures.fault is c.refuse.ensures))
