-- Helper definitions for `Recording`. The laws in THEOREM.md don't use them.
use Rattle.std.specs.Prelude.{◌≡◌, ◌≤◌, ◌==◌, pos, int_le, List, length, Bool, true, not, ◌&&◌, nat_lt, nat_le, if◌then◌else◌, Result, Ok, Err}
use Rattle.std.specs.List.{list_all}
use Rattle.nr_rev.specs.Kind.{kind_of}
use Rattle.nr_rev.specs.Limits.{AreInRange}
use Rattle.nr_rev.specs.Auxiliary.Limits.{are_in_range}
use Rattle.nr_rev.specs.declared.answer.Answer.{Answer}
use Rattle.nr_rev.specs.declared.limits.Limits.{Limits}
use Rattle.nr_rev.specs.declared.step.Step.{Step}
use Rattle.nr_rev.specs.declared.step.Step.TheVariants.{Arrive, SysWrite, Tick}
use Rattle.nr_recording.specs.Version.{has_kind, most_buffer}
use Rattle.nr_recording.specs.Auxiliary.Version.{answer_count, may_have}
use Rattle.nr_recording.specs.declared.fault.MakeFault.{MakeFault}
use Rattle.nr_recording.specs.declared.fault.MakeFault.TheVariants as fault
use Rattle.nr_recording.specs.declared.recording.RecordedStep.{RecordedStep}
use Rattle.nr_recording.specs.declared.recording.TheConstants.{MOST_STEPS, MOST_BYTES}
use Rattle.nr_recording.specs.declared.version.Version.{Version}
use Rattle.nr_recording.specs.Recording.{Recorded, recorded}

-- true if the step fits in a line: it doesn't carry too many bytes, and doesn't set the clock below
-- 0
abbrev pub fits : Step → Bool
fits (Arrive s bytes) = nat_le (length bytes) MOST_BYTES
fits (SysWrite g s bytes) = nat_le (length bytes) MOST_BYTES
fits (Tick t) = int_le (pos 0) t
fits _ = true

-- true if the version has a line for the step: the version has the step's kind, and the step fits
-- in a line
abbrev pub has_line : Version → Step → Bool
has_line version step = has_kind version (kind_of step) && fits step

-- true if the step has a line, and has an answer if and only if the version requires one
abbrev pub is_writable : Version → RecordedStep → Bool
is_writable version recorded = has_line version recorded.step && may_have version recorded.answer

-- true if each step is writable
abbrev pub are_writable : Version → List RecordedStep → Bool
are_writable version steps = list_all (is_writable version) steps

-- the invariant of recordings
pub record IsRecording (r : Recorded) : Type 0 where
  pub limits : AreInRange r.limits
  pub buffer : r.limits.buffer ≤ most_buffer r.version
  pub few : length r.steps ≤ MOST_STEPS
  pub writable : are_writable r.version r.steps ≡ true

-- true if each step has a line
abbrev pub have_lines : Version → List Step → Bool
have_lines version steps = list_all (has_line version) steps

-- true if each step has a line, and there are as many answers as the version requires
abbrev pub make_lines : Version → List Step → List Answer → Bool
make_lines version steps answers = have_lines version steps
    && (length answers == answer_count version (length steps))

-- the recording of these limits, steps and answers, or the reason why they don't make one
abbrev pub recording_of : Version → Limits → List Step → List Answer → Result Recorded MakeFault
recording_of version limits steps answers =
    if not (are_in_range limits) then Err fault.Limit
    else (if nat_lt (most_buffer version) limits.buffer then Err fault.Limit
    else (if nat_lt MOST_STEPS (length steps) then Err fault.TooManySteps
    else (if not (make_lines version steps answers) then Err fault.Step
    else Ok (record { version = version; limits = limits; steps = recorded steps answers }))))
