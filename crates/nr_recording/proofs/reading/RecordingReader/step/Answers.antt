use Rattle.nr_recording.proofs.RangeLemmas.{step_writable}
use Rattle.nr_recording.proofs.reading.RecordingReader.step.Goals as goal

pub keep-requires-clause-writable : goal.keep-requires-clause-writable
keep-requires-clause-writable c = step_writable _ _ _ c.in_ok-step.ensures.found
