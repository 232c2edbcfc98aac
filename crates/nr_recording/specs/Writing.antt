-- The text that `write` writes for a recording.
use Rattle.std.specs.Prelude.{ℕ, ◌<◌, List, [], ◌∷◌, ◌++◌, length, take, map, Result, Err, Bool, true, false, codes}
use Rattle.std.specs.List.{concat}
use Rattle.serde_json.specs.Data.{Data, number, unsigned, object, no_members, member}
use Rattle.serde_json.specs.Written.{compact_text}
use Rattle.nr_rev.specs.declared.limits.Limits.{Limits}
use Rattle.nr_text.specs.Streams.{Outgoing, Sends}
use Rattle.nr_recording.specs.declared.fault.WriteFault.{WriteFault}
use Rattle.nr_recording.specs.declared.fault.WriteFault.TheVariants as faults
use Rattle.nr_recording.specs.declared.recording.RecordedStep.{RecordedStep}
use Rattle.nr_recording.specs.declared.version.Version.{Version}
use Rattle.nr_recording.specs.Recording.{Recorded}
use Rattle.nr_recording.specs.Auxiliary.Spelling.{AreInTypes, line_data}
use Rattle.nr_recording.specs.Auxiliary.Steps.{spelling_of}
use Rattle.nr_recording.specs.Auxiliary.Version.{version_number}

-- the JSON of a step and its recorded answer
abbrev pub step_data : RecordedStep → Data
step_data recorded = line_data (spelling_of recorded)

-- true if each number in the step and its answer is in the range of its type
abbrev pub HasTypedArguments : RecordedStep → Type 0
HasTypedArguments recorded = AreInTypes (spelling_of recorded).1

-- ---- the whole text

-- the JSON of the header
abbrev pub header_data : Version → Limits → Data
header_data version l = object (member (codes "buf") (number (unsigned l.buffer))
    (member (codes "desc") (number (unsigned l.descriptors))
    (member (codes "gor") (number (unsigned l.goroutines))
    (member (codes "netrev") (number (unsigned (version_number version)))
    (member (codes "sock") (number (unsigned l.sockets)) no_members)))))

-- a value in compact form, followed by a line feed
unfoldable pub line_text : Data → List ℕ
line_text d = compact_text d ++ 10 ∷ []

-- the lines of the text, each with its line feed
abbrev pub line_texts : Recorded → List (List ℕ)
line_texts r = line_text (header_data r.version r.limits)
    ∷ map (λ recorded. line_text (step_data recorded)) r.steps

-- the whole text
abbrev pub text : Recorded → List ℕ
text r = concat (line_texts r)

-- ---- what has been written when an error occurs

-- true if the text was sent only up to some point before its end
abbrev pub SendsPart : Outgoing → Outgoing → List ℕ → Type 0
SendsPart old new bytes = (n : ℕ) × (n < length bytes) × Sends old new (take n bytes)

-- true if only whole lines were sent, from the first on, and not all of them
abbrev pub SendsLines : Outgoing → Outgoing → List (List ℕ) → Type 0
SendsLines old new texts = (n : ℕ) × (n < length texts) × Sends old new (concat (take n texts))

-- true if the result is the error of a failed write
abbrev pub is_device_failure : {A : Type 0} → Result A WriteFault → Bool
is_device_failure (Err faults.Device) = true
is_device_failure _ = false
