use Rattle.std.proofs.Common.{rules}
use Rattle.nr_recording.proofs.reading.RecordingReader.line.Goals as goal

pub returns-then-is_blank-clause-seen : goal.returns-then-is_blank-clause-seen
unfolding Rattle.nr_recording.specs.Reading.with_line
returns-then-is_blank-clause-seen c = search rules

pub returns-then-line-gt-MOST_LINE_BYTES-clause-memory : goal.returns-then-line-gt-MOST_LINE_BYTES-clause-memory
returns-then-line-gt-MOST_LINE_BYTES-clause-memory c = search rules
