use Rattle.std.proofs.Common.{◌≡◌, ap, sym, ◌∙◌}
use Rattle.std.specs.Option.{option_copied}
use Rattle.std.specs.Prelude.{slice_get}
use Rattle.nr_recording.specs.Recording.{Recorded, run_of}
use Rattle.nr_recording.proofs.RecordedLemmas.{lent_there, lent_fits, steps_are, step_fits}
use Rattle.nr_recording.proofs.recording.Recording.step.Goals as goal

pub returns-clause-value : goal.returns-clause-value
returns-clause-value c =
    let steps = c.self.inside.steps.items in
    let read : option_copied c.get.result ≡ slice_get steps c.args.n =
    lent_there c.deref.result.now c.args.n c.get.result c.get.ensures.lookup ∙ ap (λ xs. slice_get xs c.args.n) c.deref.ensures.value in
    read ∙ ap (λ xs. slice_get xs c.args.n) (sym (steps_are steps c.self.inside.answers.items))
    ∙ ap (λ (r : Recorded). slice_get (run_of r).steps c.args.n) c.self.view_is

pub returns-clause-fits : goal.returns-clause-fits
returns-clause-fits c =
    let steps = c.self.inside.steps.items in
    let read : option_copied c.get.result ≡ slice_get steps c.args.n =
    lent_there c.deref.result.now c.args.n c.get.result c.get.ensures.lookup ∙ ap (λ xs. slice_get xs c.args.n) c.deref.ensures.value in
    lent_fits c.get.result (slice_get steps c.args.n) read (step_fits c.self.inside.version steps c.self.inside.answers.items c.args.n c.self.invariant.0.writable)
