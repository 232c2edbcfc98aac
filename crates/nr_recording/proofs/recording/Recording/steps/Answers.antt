use Rattle.std.proofs.Common.{ap, sym, ◌∙◌}
use Rattle.nr_recording.specs.Recording.{Recorded, run_of}
use Rattle.nr_recording.proofs.RecordedLemmas.{steps_are}
use Rattle.nr_recording.proofs.recording.Recording.steps.Goals as goal

pub returns : goal.returns
returns c =
    let steps = c.self.inside.steps.items in
    c.as_slice.ensures.value ∙ sym (steps_are steps c.self.inside.answers.items) ∙ ap (λ (r : Recorded). (run_of r).steps) c.self.view_is
