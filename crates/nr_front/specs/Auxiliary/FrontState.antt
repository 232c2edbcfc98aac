-- Helper definitions for `FrontState`. The laws in THEOREM.md don't use them.
use Rattle.std.specs.Prelude.{◌≡◌, ◌≢◌, ℕ, length, Option, Some, None}
use Rattle.nr_rev.specs.Run.{Recording}
use Rattle.nr_journal.specs.Pass.{Entered}
use Rattle.nr_command.specs.Debugger.{Searches, after_words, opening, run}
use Rattle.nr_command.specs.declared.command.Command.{Command}
use Rattle.nr_command.specs.declared.debugger.Debugger.{Debugger}
use Rattle.nr_command.specs.declared.reply.Reply.{Reply}
use Rattle.nr_front.specs.Replica.{WalkerState}
use Rattle.nr_front.specs.Auxiliary.Replica.{ReplicaState}
use Rattle.nr_front.specs.declared.pending.Pending.{Pending}
use Rattle.nr_front.specs.declared.pending.Pending.TheVariants.{Nothing, Others, Own}
use Rattle.nr_front.specs.FrontState.{FrontState, IsBehind}

-- the front's pass
abbrev pub pass_of : FrontState → Entered
pass_of front_state = record { table = front_state.table; pass_state = front_state.pass_state }

-- a front whose debugger has run no word, with this number of workers and this walker
abbrev pub opened_front : Entered → Recording → ℕ → WalkerState → FrontState
opened_front pass recording workers walker_state =
    record {
      table = pass.table;
      recording = recording;
      workers = workers;
      walker_state = walker_state;
      pass_state = pass.pass_state;
      pending = Nothing;
    }

-- the front's machine if no command is pending; its debugger has run the words that the pass has
-- read
abbrev pub replica_of : FrontState → ReplicaState
replica_of front_state =
    record {
      recording = front_state.recording;
      workers = front_state.workers;
      debugger = after_words front_state.recording opening front_state.pass_state.seen;
      walker_state = front_state.walker_state;
    }

-- the pending command
abbrev pub pending_command : Pending → Option Command
pending_command Nothing = None
pending_command (Others command) = Some command
pending_command (Own command) = Some command

-- the pending command, if it is the front's own
abbrev pub own_pending : Pending → Option Command
own_pending Nothing = None
own_pending (Others command) = None
own_pending (Own command) = Some command

-- true unless a command of another user is pending and the journal has only one pass
abbrev pub HasCompany : Pending → ℕ → Type 0
HasCompany Nothing passes = Unit {0}
HasCompany (Others command) passes = passes ≢ 1
HasCompany (Own command) passes = Unit {0}

-- the command whose reply is owed: the front's own command, which is placed and not yet run
abbrev pub owed_command : FrontState → Option Command
owed_command front_state = own_pending front_state.pending

-- the index of the last word read, counted from 1
abbrev pub last_place : FrontState → ℕ
last_place front_state = length front_state.pass_state.seen

-- true if the last word read encodes this command, and the command gives this reply after the
-- debugger has run the earlier words
pub record RepliesLast (front_state : FrontState) (command : Command) (reply : Reply) : Type 0 where
  pub debugger : Debugger
  pub behind : IsBehind front_state.recording front_state.pass_state.seen command debugger
  pub answer : reply ≡ (run front_state.recording command debugger).0

-- True if a command is pending and will search, so it may run out of memory. It runs once all
-- earlier words have run.
pub record SearchIsPending (front_state : FrontState) : Type 0 where
  pub command : Command
  pub debugger : Debugger
  pub pending : pending_command front_state.pending ≡ Some command
  pub behind : IsBehind front_state.recording front_state.pass_state.seen command debugger
  pub searches : Searches front_state.recording command debugger
