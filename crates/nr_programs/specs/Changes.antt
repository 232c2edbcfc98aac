-- The output of the program `changes`: the cells that each step changed.
use Rattle.std.specs.Prelude.{◌⊎◌, ℕ, ◌+◌, List, [], ◌∷◌, ◌++◌, flat_map, Option, Some, None, Result, Ok, Err, codes, decimal}
use Rattle.nr_rev.specs.Run.{Recording, next_of}
use Rattle.nr_rev.specs.Step.{outcome}
use Rattle.nr_rev.specs.World.{World, empty_world}
use Rattle.nr_changes.specs.Changes.{changes_between}
use Rattle.nr_changes.specs.declared.changing.CellWithValue.{CellWithValue}
use Rattle.nr_recording.specs.Faults.{memory_line}
use Rattle.nr_recording.specs.Reading.{reading}
use Rattle.nr_recording.specs.Recording.{Recorded}
use Rattle.nr_recording.specs.declared.fault.ReadFault.{ReadFault}
use Rattle.nr_recording.specs.declared.recording.RecordedStep.{RecordedStep}
use Rattle.nr_snaps.specs.declared.fault.LoadFault.{LoadFault}
use Rattle.nr_command.specs.Reply.{text_of}
use Rattle.nr_command.specs.declared.reply.Reply.TheVariants.{Printed}
use Rattle.nr_text.specs.Streams.{Outgoing}
use Rattle.nr_programs.specs.Opening.{fault_line, opened_as, step_fault}
use Rattle.nr_programs.specs.Run.{EndsPrinting, ok_line}
use Rattle.nr_programs.specs.declared.opening.OpenFault.{OpenFault}
use Rattle.nr_programs.specs.declared.run.ExitStatus.{ExitStatus}
use Rattle.nr_programs.specs.declared.run.ExitStatus.TheVariants.{Done, Refused}

-- The text of a line: the number of a step, and a cell with its value after the step, in the form
-- of a reply to `print`.
abbrev pub change_line : ℕ → CellWithValue → List ℕ
change_line n change = decimal n ++ codes " " ++ text_of (Printed change.cell change.value)

-- a line for each cell that the step with this number changed
abbrev pub lines_of_changes : ℕ → List CellWithValue → List ℕ
lines_of_changes n changes = flat_map (change_line n) changes

-- these lines, or no lines if the step has a fault
abbrev pub unless_fault : Option LoadFault → List ℕ → List ℕ
unless_fault None lines = lines
unless_fault (Some fault) lines = []

-- The lines for the changes that these steps make, starting from a world; the first step has this
-- number. Each step in turn has a line for each cell whose value it changed, up to the first step
-- that has a fault.
abbrev pub change_lines : ℕ → World → List RecordedStep → List ℕ
change_lines n w [] = []
change_lines n w (recorded ∷ steps) =
    let came = outcome w recorded.step in
    let next = next_of w came in
    unless_fault (step_fault n recorded.answer came)
    (lines_of_changes n (changes_between w next) ++ change_lines (n + 1) next steps)

-- the lines for the changes, or no lines if the bytes aren't a recording
abbrev pub change_lines_of : Result Recorded ReadFault → List ℕ
change_lines_of (Ok r) = change_lines 1 (empty_world r.limits) r.steps
change_lines_of (Err fault) = []

-- the last line: the number of steps, or the first fault
abbrev pub last_line : Result Recording OpenFault → List ℕ
last_line (Ok r) = ok_line r
last_line (Err fault) = fault_line fault

-- the status: `Done` if there is no fault, `Refused` otherwise
abbrev pub status_of_opened : Result Recording OpenFault → ExitStatus
status_of_opened (Ok r) = Done
status_of_opened (Err fault) = Refused

-- Either the lines for the changes and the last line were written, or memory ran out at the start
-- and only `fault 108 memory` was printed.
abbrev pub WritesChanges : Result Recorded ReadFault → Outgoing → Outgoing → ExitStatus → Type 0
WritesChanges r old new status =
    EndsPrinting (change_lines_of r ++ last_line (opened_as r)) (status_of_opened (opened_as r)) old
    new status
    ⊎ EndsPrinting memory_line Refused old new status

-- The program `changes`.
abbrev pub Changes : List ℕ → Outgoing → Outgoing → ExitStatus → Type 0
Changes bytes old new status = WritesChanges (reading bytes) old new status
