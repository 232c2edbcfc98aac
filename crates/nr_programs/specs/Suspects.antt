-- The output of the program `suspects`: what happened to deadlines, the lost wake-ups, the
-- sleepers, and the held references to closed sockets.
use Rattle.std.specs.Prelude.{◌⊎◌, ℕ, List, [], ◌++◌, Result, Ok, Err}
use Rattle.nr_rev.specs.Run.{Recording}
use Rattle.nr_recording.specs.Faults.{memory_line}
use Rattle.nr_suspects.specs.Suspects.{suspect_lines}
use Rattle.nr_text.specs.Streams.{Outgoing}
use Rattle.nr_programs.specs.Changes.{last_line, status_of_opened}
use Rattle.nr_programs.specs.Opening.{opened}
use Rattle.nr_programs.specs.Run.{EndsPrinting}
use Rattle.nr_programs.specs.declared.opening.OpenFault.{OpenFault}
use Rattle.nr_programs.specs.declared.run.ExitStatus.{ExitStatus}
use Rattle.nr_programs.specs.declared.run.ExitStatus.TheVariants.{Refused}

-- the lines for a run, or no lines if there is a fault
abbrev pub suspects_of : Result Recording OpenFault → List ℕ
suspects_of (Ok r) = suspect_lines r
suspects_of (Err fault) = []

-- Either the lines of the suspects and the last line of `check` were written, or memory ran out and
-- only `fault 108 memory` was printed.
abbrev pub WritesSuspects : Result Recording OpenFault → Outgoing → Outgoing → ExitStatus → Type 0
WritesSuspects r old new status =
    EndsPrinting (suspects_of r ++ last_line r) (status_of_opened r) old new status
    ⊎ EndsPrinting memory_line Refused old new status

-- The program `suspects`.
abbrev pub ShowsSuspects : List ℕ → Outgoing → Outgoing → ExitStatus → Type 0
ShowsSuspects bytes old new status = WritesSuspects (opened bytes) old new status
