-- The output of the program `upgrade`.
use Rattle.std.specs.Prelude.{◌⊎◌, ℕ, ◌<◌, List, ◌++◌, length, take}
use Rattle.std.specs.List.{concat}
use Rattle.nr_recording.specs.Faults.{memory_line}
use Rattle.nr_recording.specs.Writing.{line_texts, text}
use Rattle.nr_rev.specs.Run.{Recording}
use Rattle.nr_snaps.specs.Auxiliary.Answers.{answered}
use Rattle.nr_text.specs.Streams.{Outgoing}
use Rattle.nr_programs.specs.Opening.{IsFirstFault, IsGoodText, fault_line}
use Rattle.nr_programs.specs.Run.{EndsPrinting}
use Rattle.nr_programs.specs.declared.opening.OpenFault.{OpenFault}
use Rattle.nr_programs.specs.declared.run.ExitStatus.{ExitStatus}
use Rattle.nr_programs.specs.declared.run.ExitStatus.TheVariants.{Done, Refused}

-- The text of the run in version 2 was written, each step with its answer. If memory ran out for a
-- line of the text, only the lines before it were written, followed by `fault 108 memory`.
abbrev pub WritesAnswered : Recording → Outgoing → Outgoing → ExitStatus → Type 0
WritesAnswered r old new status =
    EndsPrinting (text (answered r)) Done old new status
    ⊎ ((n : ℕ) × (n < length (line_texts (answered r)))
    × EndsPrinting (concat (take n (line_texts (answered r))) ++ memory_line) Refused old new
    status)

-- Either the recording was written with its answers, or the program printed a fault. If the
-- recording was written, the bytes are its text, and all its steps apply and give their recorded
-- answers. The printed fault is the first fault of the bytes or `fault 108 memory`.
abbrev pub Upgrades : List ℕ → Outgoing → Outgoing → ExitStatus → Type 0
Upgrades bytes old new status =
    ((r : Recording) × IsGoodText bytes r × WritesAnswered r old new status)
    ⊎ ((fault : OpenFault) × IsFirstFault bytes fault
    × EndsPrinting (fault_line fault) Refused old new status)
