-- The effects of a front's methods.
use Rattle.std.specs.Prelude.{◌≡◌, ◌≢◌, ℕ, ◌≤◌, ◌⊎◌, List, [], ◌∷◌, ◌++◌, length, Option, Some, None, Result, Ok, Err}
use Rattle.std.specs.List.{All}
use Rattle.nr_journal.specs.Pass.{SeesOthers, CatchesUp}
use Rattle.nr_journal.specs.Rule.{IsOthers, StartsWith, journal_room}
use Rattle.nr_command.specs.Debugger.{query_reply}
use Rattle.nr_command.specs.Word.{word_of}
use Rattle.nr_command.specs.declared.command.Command.{Command}
use Rattle.nr_command.specs.declared.command.Query.{Query}
use Rattle.nr_command.specs.declared.reply.Reply.{Reply}
use Rattle.nr_front.specs.FrontState.{FrontState}
use Rattle.nr_front.specs.Auxiliary.FrontState.{RepliesLast, SearchIsPending, replica_of, owed_command, last_place}
use Rattle.nr_front.specs.Replica.{WalkerState}
use Rattle.nr_front.specs.Auxiliary.Replica.{LookIsRefused, after_look}
use Rattle.nr_front.specs.declared.pending.Pending.TheVariants.{Nothing}
use Rattle.nr_front.specs.declared.fault.FrontFault.{FrontFault}
use Rattle.nr_front.specs.declared.fault.FrontFault.TheVariants.{Memory, Placed, Full}

-- The two states have the same journal, the same recording, the same number of workers, and the
-- same settings of the walker: the number of steps between two copies and the maximum number of
-- deltas.
pub record IsSame (old new : FrontState) : Type 0 where
  pub table : new.table ≡ old.table
  pub recording : new.recording ≡ old.recording
  pub workers : new.workers ≡ old.workers
  pub every : new.walker_state.every ≡ old.walker_state.every
  pub depth : new.walker_state.depth ≡ old.walker_state.depth

-- the two states have the same journal, recording, number of workers, and state of the walker
pub record IsUnmoved (old new : FrontState) : Type 0 where
  pub table : new.table ≡ old.table
  pub recording : new.recording ≡ old.recording
  pub workers : new.workers ≡ old.workers
  pub walker_state : new.walker_state ≡ old.walker_state

-- the front may have read words of other fronts, and it owes no reply before or after the call
pub record Learns (old new : FrontState) : Type 0 where
  pub same : IsUnmoved old new
  pub sees_others : SeesOthers old.pass_state new.pass_state
  pub looks : old.pass_state.looks ≤ new.pass_state.looks
  pub unowed : owed_command old ≡ None
  pub unowed_still : owed_command new ≡ None

-- the front read words of other fronts until it found no further word or had read a full journal,
-- and it ran all of them
pub record CatchesAll (old new : FrontState) : Type 0 where
  pub learns : Learns old new
  pub caught_up : CatchesUp (journal_room old.table) old.pass_state new.pass_state
  pub run : new.pending ≡ Nothing

-- the front read words of other fronts, and the command of one of them ran out of memory when it
-- searched; so the journal has more than one pass
pub record IsRefusedMemory (old new : FrontState) : Type 0 where
  pub learns : Learns old new
  pub wanted : SearchIsPending new
  pub company : new.pass_state.passes ≢ 1

-- the front has read and run all words of a full journal, so there is no room for another word
pub record FindsFull (old new : FrontState) : Type 0 where
  pub learns : Learns old new
  pub full : length new.pass_state.seen ≡ journal_room old.table
  pub run : new.pending ≡ Nothing

-- The front placed the command's word once, with its own tag, after the words that it has read.
-- The words that it has read include all words that its pass had learned of. The words that this
-- call read before its own word are words of other fronts; if the journal has one pass, the call
-- read no such words.
pub record PlacesCommand (command : Command) (old new : FrontState) : Type 0 where
  pub between : List ℕ
  pub same : IsUnmoved old new
  pub placed : new.pass_state.seen ≡ (old.pass_state.seen ++ between)
      ++ word_of old.pass_state.tag command ∷ []
  pub others : All (IsOthers old.pass_state.tag) between
  pub none_between : old.pass_state.passes ≡ 1 → between ≡ []
  pub learned_before : StartsWith (old.pass_state.seen ++ between) old.pass_state.learned
  pub tag : new.pass_state.tag ≡ old.pass_state.tag
  pub learned : new.pass_state.learned ≡ old.pass_state.learned
  pub passes : new.pass_state.passes ≡ old.pass_state.passes
  pub looks : old.pass_state.looks ≤ new.pass_state.looks
  pub unowed : owed_command old ≡ None

-- the command was placed and run, and this is its reply
pub record Answers (command : Command) (old new : FrontState) (reply : Reply) : Type 0 where
  pub places : PlacesCommand command old new
  pub replies : RepliesLast new command reply
  pub run : new.pending ≡ Nothing

-- the command was placed at this index, and its search ran out of memory, so its reply is owed
pub record IsLeftOwed (command : Command) (old new : FrontState) (place : ℕ) : Type 0 where
  pub places : PlacesCommand command old new
  pub now_owed : owed_command new ≡ Some command
  pub wanted : SearchIsPending new
  pub at : place ≡ last_place new

-- a reply was already owed, for the command at this index, and the call did nothing
pub record StaysOwed (old new : FrontState) (place : ℕ) : Type 0 where
  pub command : Command
  pub still_owed : owed_command old ≡ Some command
  pub unchanged : new ≡ old
  pub at : place ≡ last_place old

-- true if `exec` of a command may have this effect
abbrev pub Executes : Command → FrontState → FrontState → Result Reply FrontFault → Type 0
Executes command old new (Ok reply) = Answers command old new reply
Executes command old new (Err (Memory refused)) = IsRefusedMemory old new
Executes command old new (Err (Placed place)) =
    IsLeftOwed command old new place ⊎ StaysOwed old new place
Executes command old new (Err Full) = FindsFull old new

-- The front, with its walker in this state.
abbrev pub with_walker_state : WalkerState → FrontState → FrontState
with_walker_state walker_state front_state = record front_state { walker_state = walker_state }

-- The front read and ran all words, and if the query is about the world, the walker then went to
-- the debugger's position. The reply is what the debugger answers after it has run these words.
pub record RepliesToLook (query : Query) (old new : FrontState) (reply : Reply) : Type 0 where
  pub caught_up : FrontState
  pub catches_all : CatchesAll old caught_up
  pub led : new ≡ with_walker_state (after_look query (replica_of caught_up)) caught_up
  pub answer : reply ≡ query_reply caught_up.recording (replica_of caught_up).debugger query

-- the front read and ran all words; then the query itself ran out of memory, before or after the
-- walker reached the debugger's position
pub record IsRefusedLook (query : Query) (old new : FrontState) : Type 0 where
  pub caught_up : FrontState
  pub catches_all : CatchesAll old caught_up
  pub moved : new ≡ with_walker_state new.walker_state caught_up
  pub wanted : LookIsRefused query (replica_of caught_up) new.walker_state

-- True if `look` can have this effect. Memory can run out while another user's command searches. It
-- can also run out in the query itself, after the front has read and run all words.
abbrev pub Looks : Query → FrontState → FrontState → Result Reply FrontFault → Type 0
Looks query old new (Ok reply) = RepliesToLook query old new reply
Looks query old new (Err (Memory refused)) = IsRefusedMemory old new ⊎ IsRefusedLook query old new
Looks query old new (Err (Placed place)) = StaysOwed old new place
Looks query old new (Err Full) = ⊥

-- the front with no pending command
abbrev pub without_pending : FrontState → FrontState
without_pending front_state = record front_state { pending = Nothing }

-- the owed reply was returned, and is no longer owed
pub record AnswersOwed (old new : FrontState) (reply : Reply) : Type 0 where
  pub command : Command
  pub was_owed : owed_command old ≡ Some command
  pub replies : RepliesLast old command reply
  pub now : new ≡ without_pending old

-- no reply was owed
pub record OwesNothing (old new : FrontState) : Type 0 where
  pub unowed : owed_command old ≡ None
  pub unchanged : new ≡ old

-- the search of the command whose reply is owed ran out of memory again
pub record IsStillOwed (old new : FrontState) (place : ℕ) : Type 0 where
  pub stays : StaysOwed old new place
  pub wanted : SearchIsPending old

-- true if `resume` may have this effect
abbrev pub Resumes : FrontState → FrontState → Result (Option Reply) FrontFault → Type 0
Resumes old new (Ok None) = OwesNothing old new
Resumes old new (Ok (Some reply)) = AnswersOwed old new reply
Resumes old new (Err (Memory refused)) = ⊥
Resumes old new (Err (Placed place)) = IsStillOwed old new place
Resumes old new (Err Full) = ⊥
