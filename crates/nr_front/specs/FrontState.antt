-- The abstract value of a front: a pass of the journal, and a debugger that runs the words that the
-- pass reads.
use Rattle.std.specs.Prelude.{◌≡◌, ℕ, List, [], ◌∷◌, ◌++◌, Option, Some, None}
use Rattle.atomic_table.specs.Seated.{TableId}
use Rattle.nr_rev.specs.Run.{Recording}
use Rattle.nr_journal.specs.declared.view.PassState.{PassState}
use Rattle.nr_journal.specs.Rule.{tag_of}
use Rattle.nr_command.specs.Debugger.{after_words, opening}
use Rattle.nr_command.specs.Word.{command_of}
use Rattle.nr_command.specs.declared.command.Command.{Command}
use Rattle.nr_command.specs.declared.debugger.Debugger.{Debugger}
use Rattle.nr_front.specs.Replica.{WalkerState}
use Rattle.nr_front.specs.declared.pending.Pending.{Pending}

-- The abstract value of a front: its journal, its recording, the number of workers, and the states
-- of its walker and its pass. `pending` is the command of the last word read, if that command
-- hasn't been run yet.
pub record FrontState : Type 0 where
  pub table : TableId
  pub recording : Recording
  pub workers : ℕ
  pub walker_state : WalkerState
  pub pass_state : PassState
  pub pending : Pending

-- the last of the words has this command, and the debugger has run only the words before it
pub record IsBehind (r : Recording) (words : List ℕ) (command : Command) (debugger : Debugger) :
    Type 0 where
  pub before : List ℕ
  pub word : ℕ
  pub last : words ≡ before ++ word ∷ []
  pub meaning : command_of word ≡ Some (tag_of word, command)
  pub behind : debugger ≡ after_words r opening before

-- true if the debugger has run the words, except the last word if its command is pending
abbrev pub IsAt : Recording → List ℕ → Option Command → Debugger → Type 0
IsAt r words None debugger = debugger ≡ after_words r opening words
IsAt r words (Some command) debugger = IsBehind r words command debugger
