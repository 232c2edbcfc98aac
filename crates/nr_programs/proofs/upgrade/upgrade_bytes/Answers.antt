use Rattle.std.proofs.Common.{◌≡◌, inl, inr, subst}
use Rattle.nr_programs.specs.Upgrade.{WritesAnswered}
use Rattle.nr_programs.proofs.OpeningLemmas.{one_recording, prints_memory}
use Rattle.nr_programs.proofs.upgrade.upgrade_bytes.Goals as goal

pub returns-in-Ok-clause-good : goal.returns-in-Ok-clause-good
returns-in-Ok-clause-good g c = λ r is.
    let same : c.in-Ok.film.recording ≡ r = one_recording c.args.bytes.now c.in-Ok.film.recording r c.in-Ok.ensures.film is in
    inl (subst (λ x. WritesAnswered x c.args.output.now c.write_answered.new.output c.write_answered.result) same c.write_answered.ensures)

pub returns-in-Err-clause-good : goal.returns-in-Err-clause-good
returns-in-Err-clause-good g c = λ r is.
    inr (prints_memory _ _ _ _ _ _ c.in-Err.ensures.fault is c.refuse.ensures)
