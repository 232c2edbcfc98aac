-- Helper definitions for `Reading`. The laws in THEOREM.md don't use them.
use Rattle.std.specs.Prelude.{◌≡◌, ℕ, ◌==◌, ◌≤◌, true, false, List, [], length, Bool, not, ◌&&◌, ◌||◌, Option, Some, None, Result, Ok, Err, IfSome, is_ok, nat_lt}
use Rattle.std.specs.List.{list_any}
use Rattle.serde_json.specs.Data.{Data}
use Rattle.serde_json.specs.Read.{read}
use Rattle.nr_recording.specs.declared.fault.LineError.{LineError}
use Rattle.nr_recording.specs.declared.fault.LineError.TheVariants as line
use Rattle.nr_recording.specs.declared.fault.ReadFault.{ReadFault}
use Rattle.nr_recording.specs.declared.fault.ReadFault.TheVariants as errors
use Rattle.nr_recording.specs.declared.reading.TheConstants.{MOST_LINE_BYTES}
use Rattle.nr_recording.specs.declared.recording.TheConstants.{MOST_STEPS}
use Rattle.nr_recording.specs.declared.reading.Header.{Header}
use Rattle.nr_rev.specs.Limits.{AreInRange}
use Rattle.nr_recording.specs.Auxiliary.Recording.{are_writable}
use Rattle.nr_recording.specs.declared.recording.RecordedStep.{RecordedStep}
use Rattle.nr_recording.specs.Steps.{step_of}
use Rattle.nr_recording.specs.Auxiliary.Steps.{step_takes_memory}
use Rattle.nr_recording.specs.Version.{most_buffer}
use Rattle.nr_recording.specs.Reading.{Seen, is_blank, lines}

-- true if the steps read so far are of the header's version, or if neither header nor steps have
-- been read
abbrev pub AreOfHeader : Option Header → List RecordedStep → Type 0
AreOfHeader None steps = steps ≡ []
AreOfHeader (Some header) steps = are_writable header.version steps ≡ true

-- true if the invariant of the lines read so far holds
pub record IsSeen (seen : Seen) : Type 0 where
  pub limits : IfSome seen.header (λ header. AreInRange header.limits)
  pub buffer : IfSome seen.header (λ header. header.limits.buffer ≤ most_buffer header.version)
  pub few : length seen.steps ≤ MOST_STEPS
  pub writable : AreOfHeader seen.header seen.steps

-- true if reading the next value allocates memory, either to hold a step's bytes or to store a
-- valid step
abbrev pub value_takes_memory : Seen → Option Header → Data → Bool
value_takes_memory seen None d = false
value_takes_memory seen (Some header) d = not (length seen.steps == MOST_STEPS)
    && (step_takes_memory header.version d || is_ok (step_of header.version d))

-- true if reading a line allocates memory because it is neither too long nor blank
abbrev pub line_takes_memory : List ℕ → Bool
line_takes_memory line = not (nat_lt MOST_LINE_BYTES (length line)) && not (is_blank line)

-- the lines of the text after a line feed, or none if there was no line feed
abbrev pub lines_behind : Option (List ℕ) → List (List ℕ)
lines_behind None = []
lines_behind (Some text) = lines text

-- the error of a function that read line n; only faults have a line number
abbrev pub read_fault_at : ℕ → LineError → ReadFault
read_fault_at n (line.Memory refused) = errors.Memory refused
read_fault_at n (line.Fault f) = errors.Line n f

-- true if reading fails with this fault, or if the error is that memory ran out
abbrev pub IsFaultOf : {Y : Type 0} → ReadFault → Result Y ReadFault → Type 0
IsFaultOf (errors.Memory refused) read = Unit {0}
IsFaultOf (errors.Line n f) read = read ≡ Err (errors.Line n f)

-- true if the result equals `read`, or if memory ran out
abbrev pub IsUnlessMemory : {X : Type 0} → Result X ReadFault → Result X ReadFault → Type 0
IsUnlessMemory (Ok x) read = read ≡ Ok x
IsUnlessMemory (Err e) read = IsFaultOf e read

-- true if reading any of the lines allocates memory
abbrev pub text_takes_memory : List ℕ → Bool
text_takes_memory bytes = list_any line_takes_memory (lines bytes)
