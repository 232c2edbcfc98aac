-- Helper definitions for `Debugger`. The laws in THEOREM.md don't use them.
use Rattle.std.specs.Prelude.{ℕ, ◌≤◌, Bool, true, false, All, List}
use Rattle.nr_rev.specs.Cell.{bytes_of, queue_of}
use Rattle.nr_rev.specs.Run.{Recording, world_at}
use Rattle.nr_rev.specs.Auxiliary.Worlds.{HasItems}
use Rattle.nr_command.specs.Checkpoints as checkpoints
use Rattle.nr_command.specs.declared.command.Command.{Command}
use Rattle.nr_command.specs.declared.command.Command.TheVariants as commands
use Rattle.nr_command.specs.declared.command.Query.{Query}
use Rattle.nr_command.specs.declared.command.Query.TheVariants as queries
use Rattle.nr_command.specs.declared.debugger.Debugger.{Debugger}
use Rattle.nr_command.specs.declared.reply.Reply.{Reply}
use Rattle.nr_command.specs.Debugger.{after_words, opening, run}

-- true if the debugger's position and its checkpoints are in the recording
pub record IsWithin (last : ℕ) (d : Debugger) : Type 0 where
  pub position : d.position ≤ last
  pub kept : All (λ c. c.item ≤ last) d.checkpoints.present

-- true if the command is `continue` or `reverse-continue`, which are the only commands that search
abbrev pub continues : Command → Bool
continues commands.Continue = true
continues commands.ReverseContinue = true
continues command = false

-- the reply to a command after a history
abbrev pub reply_behind : Recording → List ℕ → Command → Reply
reply_behind r words command = (run r command (after_words r opening words)).0

-- true if the query copies a part of the world, as a dump does if it has bytes or goroutines to
-- show
abbrev pub Copies : Recording → Debugger → Query → Type 0
Copies r d (queries.DumpBytes side s) = HasItems (bytes_of (world_at r d.position) s side)
Copies r d (queries.DumpQueue side s) = HasItems (queue_of (world_at r d.position) s side)
Copies r d _ = ⊥
