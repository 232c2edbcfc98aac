use Rattle.std.proofs.Common.{◌≡◌, ap, sym, ◌∙◌}
use Rattle.std.specs.Prelude.{slice_get}
use Rattle.nr_recording.specs.Recording.{Recorded, recorded_at}
use Rattle.nr_recording.proofs.RecordedLemmas.{lent_there, answer_there, few_answers}
use Rattle.nr_recording.proofs.recording.Recording.answer.Goals as goal

pub returns : goal.returns
returns c =
    let steps = c.self.inside.steps.items in
    let answers = c.self.inside.answers.items in
    let read : c.copied.result ≡ slice_get answers c.args.n =
    c.copied.ensures ∙ lent_there c.deref.result.now c.args.n c.get.result c.get.ensures.lookup ∙ ap (λ xs. slice_get xs c.args.n) c.deref.ensures.value in
    read ∙ sym (answer_there steps answers c.args.n (few_answers c.self.inside.version steps answers c.self.invariant.1))
    ∙ ap (λ (r : Recorded). recorded_at r c.args.n) c.self.view_is
