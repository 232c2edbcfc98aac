-- Sessions that several callers share.
use Rattle.std.specs.Prelude.{◌≡◌, ◌⊎◌, ℕ, Bool, List, ◌++◌, length, Option, Some, None, codes, decimal, if◌then◌else◌}
use Rattle.nr_rev.specs.Run.{Recording}
use Rattle.nr_text.specs.Streams.{Outgoing}
use Rattle.nr_recording.specs.Faults.{memory_line}
use Rattle.nr_serving.specs.Conversations.{FrontsLog, Passed}
use Rattle.nr_serving.specs.Session.{IsShared, Opens}
use Rattle.nr_programs.specs.Opening.{IsFirstFault, IsGoodText, fault_line}
use Rattle.nr_programs.specs.Run.{EndsPrinting}
use Rattle.nr_programs.specs.declared.sharing.Sharing.{Sharing}
use Rattle.nr_programs.specs.declared.opening.OpenFault.{OpenFault}
use Rattle.nr_programs.specs.declared.run.TheConstants.{DELTAS_KEPT}
use Rattle.nr_programs.specs.declared.run.ExitStatus.{ExitStatus}
use Rattle.nr_programs.specs.declared.run.ExitStatus.TheVariants.{Done, Refused, StreamFailed}

-- the line with the number of commands that were placed
abbrev pub placed_line : List ℕ → List ℕ
placed_line history = codes "placed " ++ decimal (length history) ++ codes "\n"

-- the status of a session, given whether a stream failed
abbrev pub exit_status_of : Bool → ExitStatus
exit_status_of failed = if failed then StreamFailed else Done

-- the line at the end of a shared session: the number of commands that were placed, or lack of
-- memory if the history couldn't be collected
abbrev pub PrintsHistory : Option (List ℕ) → Bool → Outgoing → Outgoing → ExitStatus → Type 0
PrintsHistory (Some history) failed old new status =
    EndsPrinting (placed_line history) (exit_status_of failed) old new status
PrintsHistory None failed old new status = EndsPrinting memory_line Refused old new status

-- The requested number of fronts was opened, with these conversations. The fronts shared the
-- recording over one journal, each with the requested number of workers and a walker as deep as
-- that of `run`.
abbrev pub SharesAll : Recording → Sharing → FrontsLog → FrontsLog → Option (List ℕ) → Bool → Type 0
SharesAll r sharing before after history failed =
    (passed : List Passed) × Opens sharing.fronts passed before after
    × IsShared r sharing.journal sharing.fronts DELTAS_KEPT sharing.workers passed history failed

-- The number of commands that the fronts placed was printed, or `fault 108 memory` if memory ran
-- out while the history was collected. If memory ran out before the recording was shared, the same
-- fault was printed, and no port was opened.
abbrev pub Shares : Recording → Sharing → FrontsLog → FrontsLog → Outgoing → Outgoing → ExitStatus
    → Type 0
Shares r sharing before after old new status =
    ((history : List ℕ) × (failed : Bool) × SharesAll r sharing before after (Some history) failed
    × PrintsHistory (Some history) failed old new status)
    ⊎ ((failed : Bool) × SharesAll r sharing before after None failed
    × PrintsHistory None failed old new status)
    ⊎ ((after ≡ before) × EndsPrinting memory_line Refused old new status)

-- Either the recording was shared, or the program printed a fault and opened no port. If the
-- recording was shared, the bytes are its text, and all its steps apply and give their recorded
-- answers. The printed fault is the first fault of the bytes or `fault 108 memory`.
abbrev pub ServesAll : List ℕ → Sharing → FrontsLog → FrontsLog → Outgoing → Outgoing → ExitStatus
    → Type 0
ServesAll bytes sharing before after old new status =
    ((r : Recording) × IsGoodText bytes r × Shares r sharing before after old new status)
    ⊎ ((fault : OpenFault) × IsFirstFault bytes fault × (after ≡ before)
    × EndsPrinting (fault_line fault) Refused old new status)
