-- Helper definitions for `Run`. The laws in THEOREM.md don't use them.
use Rattle.std.specs.Prelude.{◌≡◌, ◌⊎◌, ℕ, List, Result, Ok, Err}
use Rattle.atomic_table.specs.Seated.{TableId}
use Rattle.nr_rev.specs.Run.{Recording}
use Rattle.nr_journal.specs.Rule.{journal_room}
use Rattle.nr_journal.specs.Auxiliary.Rule.{entering_alone}
use Rattle.nr_front.specs.FrontState.{FrontState}
use Rattle.nr_front.specs.Auxiliary.FrontState.{opened_front}
use Rattle.nr_front.specs.Auxiliary.Replica.{at_start}
use Rattle.nr_lines.specs.Auxiliary.Engine.{AnswersLines, is_read_failure, is_write_failure}
use Rattle.nr_text.specs.Streams.{Incoming, Outgoing}
use Rattle.nr_lines.specs.declared.ending.End.{End}
use Rattle.nr_lines.specs.declared.ending.LineEnd.{LineEnd}
use Rattle.nr_programs.specs.Opening.{IsFirstFault, IsGoodText, fault_line}
use Rattle.nr_programs.specs.declared.opening.OpenFault.{OpenFault}
use Rattle.nr_programs.specs.declared.run.ExitStatus.{ExitStatus}
use Rattle.nr_programs.specs.declared.run.ExitStatus.TheVariants.{Done, Refused, Usage, StreamFailed}
use Rattle.nr_programs.specs.declared.opening.TheConstants.{COPY_EVERY}
use Rattle.nr_programs.specs.declared.run.TheConstants.{DELTAS_KEPT, JOURNAL_ROOM}
use Rattle.nr_programs.specs.Run.{EndsPrinting, PrintsFault, ok_line}

-- the exit status as a number
abbrev pub status_code : ExitStatus → ℕ
status_code Done = 0
status_code Refused = 1
status_code Usage = 2
status_code StreamFailed = 3

-- the status after serving: `StreamFailed` if a stream failed, and otherwise `Done`
abbrev pub status_after : Result End LineEnd → ExitStatus
status_after (Ok ending) = Done
status_after (Err stopped) = StreamFailed

-- A new front answered the lines that were read. The front has the only pass of its journal, one
-- worker, and a walker that keeps the last DELTAS_KEPT deltas. The result reports a stream's
-- failure if and only if the stream failed.
pub record Walks (from left : Incoming) (old new : Outgoing) (r : Recording) (status : ExitStatus) :
    Type 0 where
  pub table : TableId
  pub room_is : journal_room table ≡ JOURNAL_ROOM
  pub last : FrontState
  pub ending : Result End LineEnd
  pub serves :
      AnswersLines from left old new
      (opened_front (record { table = table; pass_state = entering_alone }) r 1
      (at_start COPY_EVERY DELTAS_KEPT))
      last ending
  pub ends : status ≡ status_after ending
  pub read_failed : left.failed ≡ is_read_failure ending
  pub write_failed : new.failed ≡ is_write_failure ending

-- Either the bytes are a recording whose steps all apply, and its session runs; or the first fault
-- of the bytes is printed.
abbrev pub Runs : List ℕ → Incoming → Incoming → Outgoing → Outgoing → ExitStatus → Type 0
Runs bytes input left old new status =
    ((r : Recording) × IsGoodText bytes r × Walks input left old new r status)
    ⊎ ((fault : OpenFault) × IsFirstFault bytes fault
    × PrintsFault (fault_line fault) input left old new status)

-- Either the bytes are a recording whose steps all apply, and `ok` is printed; or the first fault
-- of the bytes is printed.
abbrev pub Checks : List ℕ → Outgoing → Outgoing → ExitStatus → Type 0
Checks bytes old new status =
    ((r : Recording) × IsGoodText bytes r × EndsPrinting (ok_line r) Done old new status)
    ⊎ ((fault : OpenFault) × IsFirstFault bytes fault
    × EndsPrinting (fault_line fault) Refused old new status)
