use Rattle.std.proofs.Common.{◌≡◌, inl, inr, subst, rules}
use Rattle.nr_programs.specs.Run.{EndsPrinting, ok_line}
use Rattle.nr_programs.specs.declared.run.ExitStatus.TheVariants as statuses
use Rattle.nr_programs.proofs.OpeningLemmas.{one_recording, prints_memory}
use Rattle.nr_programs.proofs.run.check_bytes.Goals as goal

pub returns-in-Ok-clause-good : goal.returns-in-Ok-clause-good
returns-in-Ok-clause-good g c = λ r is.
    let same : c.in-Ok.film.recording ≡ r = one_recording c.args.bytes.now c.in-Ok.film.recording r c.in-Ok.ensures.film is in
    inl (subst (λ x. EndsPrinting (ok_line x) statuses.Done c.args.output.now c.accept.new.output c.accept.result) same c.accept.ensures)

pub returns-in-Err-clause-good : goal.returns-in-Err-clause-good
returns-in-Err-clause-good g c = λ r is.
    inr (prints_memory _ _ _ _ _ _ c.in-Err.ensures.fault is c.refuse.ensures)

pub returns-in-Err-clause-checks : goal.returns-in-Err-clause-checks
returns-in-Err-clause-checks g c = search rules
