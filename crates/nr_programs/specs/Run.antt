-- What the programs read and write, and their exit status.
use Rattle.std.specs.Prelude.{◌≡◌, ◌⊎◌, ℕ, List, ◌++◌, length, codes, decimal}
use Rattle.nr_rev.specs.Run.{Recording}
use Rattle.nr_text.specs.Streams.{Outgoing, WritesAll, WritesPrefix}
use Rattle.nr_programs.specs.declared.run.ExitStatus.{ExitStatus}
use Rattle.nr_programs.specs.declared.run.ExitStatus.TheVariants.{Refused, StreamFailed}

-- The whole text was written, and the status is the given one; or a write failed after a prefix of
-- the text.
abbrev pub EndsPrinting : List ℕ → ExitStatus → Outgoing → Outgoing → ExitStatus → Type 0
EndsPrinting text wanted old new status =
    ((status ≡ wanted) × WritesAll old new text)
    ⊎ ((status ≡ StreamFailed) × ((part : ℕ) × WritesPrefix old new text part))

-- No input was read, and only the line of a fault was written.
pub record PrintsFault {I : Type 0} (line : List ℕ) (input left : I) (old new : Outgoing)
    (status : ExitStatus) : Type 0 where
  pub unread : left ≡ input
  pub printed : EndsPrinting line Refused old new status

-- the line for an accepted recording of this many steps
abbrev pub accepted_line : ℕ → List ℕ
accepted_line steps = codes "ok " ++ decimal steps ++ codes " steps\n"

-- the line for an accepted recording
abbrev pub ok_line : Recording → List ℕ
ok_line r = accepted_line (length r.steps)
