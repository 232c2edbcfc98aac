-- The recording that bytes denote, or the first fault in them.
use Rattle.std.specs.Prelude.{ℕ, suc, ◌==◌, List, [], ◌∷◌, ◌++◌, length, Bool, ◌||◌, Option, Some, None, Result, Ok, Err, nat_lt, if◌then◌else◌}
use Rattle.std.specs.List.{slice_split, list_all}
use Rattle.std.specs.Str.{is_utf8}
use Rattle.serde_json.specs.Data.{Data}
use Rattle.serde_json.specs.Read.{read}
use Rattle.nr_recording.specs.declared.fault.Fault.{Fault}
use Rattle.nr_recording.specs.declared.fault.Fault.TheVariants as fault
use Rattle.nr_recording.specs.declared.fault.ReadFault.{ReadFault}
use Rattle.nr_recording.specs.declared.fault.ReadFault.TheVariants as errors
use Rattle.nr_recording.specs.declared.reading.TheConstants.{MOST_LINE_BYTES}
use Rattle.nr_recording.specs.declared.recording.TheConstants.{MOST_STEPS}
use Rattle.nr_recording.specs.declared.reading.Header.{Header}
use Rattle.nr_recording.specs.Faults.{◌>>=◌, or_fault}
use Rattle.nr_recording.specs.Recording.{Recorded}
use Rattle.nr_recording.specs.declared.recording.RecordedStep.{RecordedStep}
use Rattle.nr_recording.specs.Header.{version_of, header_of}
use Rattle.nr_recording.specs.Steps.{step_of}

-- ---- one line

-- the lines of a text, each of which ends with a line feed, except perhaps the last
abbrev pub lines : List ℕ → List (List ℕ)
lines bytes = slice_split (λ b. b == 10) bytes

-- true if the byte is a space, a tab or a carriage return
abbrev pub is_space : ℕ → Bool
is_space b = (b == 32) || (b == 9) || (b == 13)

-- true if the line is empty or contains only spaces, tabs and carriage returns
abbrev pub is_blank : List ℕ → Bool
is_blank line = list_all is_space line

-- the JSON value of a line
unfoldable pub value_of : List ℕ → Result Data Fault
value_of line = if is_utf8 line then or_fault fault.NotJson (read line) else Err fault.NotJson

-- ---- a sequence of lines

-- the header and the steps of the lines read so far
pub record Seen : Type 0 where
  pub header : Option Header
  pub steps : List RecordedStep

-- the state before the first line
abbrev pub nothing : Seen
nothing = record { header = None; steps = [] }

-- the state after the value of the next line
abbrev pub with_value : Seen → Option Header → Data → Result Seen Fault
with_value seen None d = do
  version ← version_of d
  limits ← header_of version d
  Ok (record seen { header = Some (record { version = version; limits = limits }) })
with_value seen (Some header) d =
    if length seen.steps == MOST_STEPS then Err fault.TooManySteps
    else do
      step ← step_of header.version d
      Ok (record seen { steps = seen.steps ++ step ∷ [] })

-- the state after the next line
unfoldable pub with_line : Seen → List ℕ → Result Seen Fault
with_line seen line =
    if nat_lt MOST_LINE_BYTES (length line) then Err fault.Limit
    else (if is_blank line then Ok seen
    else do
      d ← value_of line
      with_value seen seen.header d)

-- the result of reading line n, with the line's number in a fault
abbrev pub at_line : {A : Type 0} → ℕ → Result A Fault → Result A ReadFault
at_line n (Ok x) = Ok x
at_line n (Err f) = Err (errors.Line n f)

-- the state after more lines, the first of which has number n
unfoldable pub with_lines : ℕ → Seen → List (List ℕ) → Result Seen ReadFault
with_lines n seen [] = Ok seen
with_lines n seen (line ∷ rest) =
    at_line n (with_line seen line) >>= λ next. with_lines (suc n) next rest

-- ---- the whole text

-- the recording with this header and these steps, or a fault in line n if there is no header
abbrev pub with_header : ℕ → Option Header → List RecordedStep → Result Recorded ReadFault
with_header n None steps = Err (errors.Line n fault.Header)
with_header n (Some header) steps = Ok (record {
  version = header.version;
  limits = header.limits;
  steps = steps;
})

-- the result after the last line, whose number is n
abbrev pub recording_at_end : ℕ → Seen → Result Recorded ReadFault
recording_at_end n seen = with_header n seen.header seen.steps

-- the recording, or the fault of the first faulty line
unfoldable pub reading : List ℕ → Result Recorded ReadFault
reading bytes = with_lines 1 nothing (lines bytes) >>= recording_at_end (length (lines bytes))
