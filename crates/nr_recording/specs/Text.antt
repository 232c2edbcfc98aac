-- The grammar of recordings as text, independent of the function that reads it.
use Rattle.std.specs.Prelude.{◌≡◌, ◌≤◌, ◌⊎◌, ℕ, List, [], ◌∷◌, length, true, false, Ok, ⊤}
use Rattle.serde_json.specs.Data.{Data}
use Rattle.nr_rev.specs.declared.limits.Limits.{Limits}
use Rattle.nr_recording.specs.declared.reading.TheConstants.{MOST_LINE_BYTES}
use Rattle.nr_recording.specs.declared.recording.TheConstants.{MOST_STEPS}
use Rattle.nr_recording.specs.declared.recording.RecordedStep.{RecordedStep}
use Rattle.nr_recording.specs.declared.version.Version.{Version}
use Rattle.nr_recording.specs.Recording.{Recorded}
use Rattle.nr_recording.specs.Header.{version_of, header_of}
use Rattle.nr_recording.specs.Steps.{step_of}
use Rattle.nr_recording.specs.Reading.{lines, is_blank, value_of}

-- true if the line is skipped
pub record IsSkipped (line : List ℕ) : Type 0 where
  pub short : length line ≤ MOST_LINE_BYTES
  pub blank : is_blank line ≡ true

-- true if the line is the JSON value d
pub record IsValueLine (line : List ℕ) (d : Data) : Type 0 where
  pub short : length line ≤ MOST_LINE_BYTES
  pub visible : is_blank line ≡ false
  pub value : value_of line ≡ Ok d

-- true if the line is a header of this version with these limits
abbrev pub IsHeaderLine : Version → List ℕ → Limits → Type 0
IsHeaderLine version line limits = (d : Data) × IsValueLine line d × (version_of d ≡ Ok version)
    × (header_of version d ≡ Ok limits)

-- true if the line is this step, with its answer if the version has answers
abbrev pub IsStepLine : Version → List ℕ → RecordedStep → Type 0
IsStepLine version line step = (d : Data) × IsValueLine line d × (step_of version d ≡ Ok step)

-- true if the lines, except for skipped ones, are one line for each step, in order
abbrev pub AreSteps : Version → List (List ℕ) → List RecordedStep → Type 0
AreSteps version [] [] = ⊤
AreSteps version [] (step ∷ steps) = ⊥
AreSteps version (line ∷ rest) [] = IsSkipped line × AreSteps version rest []
AreSteps version (line ∷ rest) (step ∷ steps) =
    (IsSkipped line × AreSteps version rest (step ∷ steps))
    ⊎ (IsStepLine version line step × AreSteps version rest steps)

-- True if the lines, except for skipped ones, are a header and then one line for each step. The
-- number of steps is at most MOST_STEPS.
abbrev pub AreLinesOf : List (List ℕ) → Recorded → Type 0
AreLinesOf [] r = ⊥
AreLinesOf (line ∷ rest) r =
    (IsSkipped line × AreLinesOf rest r)
    ⊎ (IsHeaderLine r.version line r.limits × AreSteps r.version rest r.steps
    × (length r.steps ≤ MOST_STEPS))

-- true if the bytes are a text that denotes the recording
abbrev pub IsTextOf : List ℕ → Recorded → Type 0
IsTextOf bytes r = AreLinesOf (lines bytes) r
