-- Helper definitions for `Serving`. The laws in THEOREM.md don't use them.
use Rattle.std.specs.Prelude.{Result, Ok, Err}
use Rattle.nr_rev.specs.declared.memory.Memory.{Memory}
use Rattle.nr_text.specs.Streams.{Outgoing}
use Rattle.nr_recording.specs.Faults.{memory_line}
use Rattle.nr_serving.specs.Auxiliary.Session.{words_of}
use Rattle.nr_serving.specs.declared.session.Ended.{Ended}
use Rattle.nr_programs.specs.Run.{EndsPrinting}
use Rattle.nr_programs.specs.declared.run.ExitStatus.{ExitStatus}
use Rattle.nr_programs.specs.declared.run.ExitStatus.TheVariants.{Refused}
use Rattle.nr_programs.specs.Serving.{PrintsHistory}

-- The output at the end of a session: the number of placed commands, or `fault 108 memory` if
-- memory ran out before the recording was shared or while the history was collected.
abbrev pub PrintsSession : Result Ended Memory → Outgoing → Outgoing → ExitStatus → Type 0
PrintsSession (Ok ended) old new status =
    PrintsHistory (words_of ended.history) ended.failed old new status
PrintsSession (Err fault) old new status = EndsPrinting memory_line Refused old new status
