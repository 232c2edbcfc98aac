-- Helper definitions for `Changes`. The laws in THEOREM.md don't use them.
use Rattle.std.specs.Prelude.{◌≡◌, ℕ, ◌+◌, List, ◌++◌, map, slice_get, Some, None}
use Rattle.nr_rev.specs.Run.{next_of}
use Rattle.nr_rev.specs.Step.{outcome}
use Rattle.nr_rev.specs.World.{World}
use Rattle.nr_changes.specs.Changes.{changes_between}
use Rattle.nr_changes.specs.declared.changing.CellWithValue.{CellWithValue}
use Rattle.nr_recording.specs.Recording.{Recorded}
use Rattle.nr_recording.specs.declared.recording.RecordedStep.{RecordedStep}
use Rattle.nr_snaps.specs.declared.fault.LoadFault.{LoadFault}
use Rattle.nr_programs.specs.Changes.{change_line}
use Rattle.nr_programs.specs.Opening.{step_fault}
use Rattle.nr_programs.specs.declared.changes.ChangeLine.{ChangeLine}

-- the text of a line
abbrev pub change_text : ChangeLine → List ℕ
change_text line = change_line line.step line.change

-- the lines for the changes of the step with this number
abbrev pub as_lines : ℕ → List CellWithValue → List ChangeLine
as_lines n changes = map (λ change. record { step = n; change = change }) changes

-- The step after position n turns the first world into the second and has no fault, and its lines
-- were appended.
pub record StepsOn (r : Recorded) (n : ℕ) (w : World) (before : List ChangeLine) (next : World)
    (after : List ChangeLine) : Type 0 where
  pub recorded : RecordedStep
  pub read : slice_get r.steps n ≡ Some recorded
  pub faultless : step_fault (n + 1) recorded.answer (outcome w recorded.step) ≡ None
  pub leads : next ≡ next_of w (outcome w recorded.step)
  pub listed : after ≡ before ++ as_lines (n + 1) (changes_between w next)

-- The step after position n has this fault, and no line was appended.
pub record HasFault (r : Recorded) (n : ℕ) (w : World) (before after : List ChangeLine)
    (fault : LoadFault) : Type 0 where
  pub recorded : RecordedStep
  pub read : slice_get r.steps n ≡ Some recorded
  pub faulty : step_fault (n + 1) recorded.answer (outcome w recorded.step) ≡ Some fault
  pub kept : after ≡ before
