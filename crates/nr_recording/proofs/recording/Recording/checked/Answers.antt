use Rattle.nr_recording.proofs.RecordedLemmas.{count_wanted}
use Rattle.nr_recording.proofs.recording.Recording.checked.Goals as goal

pub invariant_of-result : goal.invariant_of-result
invariant_of-result c =
    (c.requires.is, count_wanted c.args.version c.args.steps.items c.args.answers.items c.requires.is.writable c.requires.answers)
