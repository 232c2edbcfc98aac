use Rattle.std.proofs.Common.{◌≡◌, length, ap, sym, ◌∙◌, rules}
use Rattle.nr_recording.specs.Recording.{Recorded}
use Rattle.nr_recording.proofs.RecordedLemmas.{count_is}
use Rattle.nr_recording.proofs.recording.Recording.is_empty.Goals as goal

pub returns : goal.returns
returns c =
    let count = count_is c.self.inside.steps.items c.self.inside.answers.items in
    let seen = ap (λ (r : Recorded). length r.steps) c.self.view_is in
    let same : length c.self.inside.steps.items ≡ length c.args.self.now.steps = sym count ∙ seen in
    rw (← same) (search rules)
