-- The debugger as a state machine: the reply to each command, and the state after it.
use Rattle.std.specs.Prelude.{◌≡◌, true, ℕ, ◌+◌, ◌-◌, ◌==◌, nat_lt, List, [], ◌∷◌, length, Option, Some, None, Result, Ok, Err, if◌then◌else◌}
use Rattle.nr_rev.specs.Cell.{cell, bytes_of, queue_of}
use Rattle.nr_rev.specs.Run.{Recording, world_at}
use Rattle.nr_marks.specs.Marks.{after_stop, any_watch, mark_deletion, next_number}
use Rattle.nr_marks.specs.Numbered.{empty, item_of, with_item, without_item}
use Rattle.nr_marks.specs.declared.mark.Mark.{Mark}
use Rattle.nr_marks.specs.declared.mark.Mark.TheVariants as marks
use Rattle.nr_marks.specs.declared.marks.MarkFault.{MarkFault}
use Rattle.nr_search.specs.Nearest.{NeedsCopy, nearest_hit}
use Rattle.nr_search.specs.declared.direction.Direction.{Direction}
use Rattle.nr_search.specs.declared.direction.Direction.TheVariants.{Forward, Backward}
use Rattle.nr_search.specs.declared.found.Found.{Found}
use Rattle.nr_search.specs.declared.found.Found.TheVariants.{Hit, Nothing}
use Rattle.nr_command.specs.Checkpoints.{Checkpoint, next_checkpoint}
use Rattle.nr_command.specs.Checkpoints as checkpoints
use Rattle.nr_command.specs.Word.{command_of}
use Rattle.nr_command.specs.declared.checkpoint.CheckpointFault.{CheckpointFault}
use Rattle.nr_command.specs.declared.checkpoint.CheckpointFault.TheVariants.{NoSuchCheckpoint}
use Rattle.nr_command.specs.declared.command.Command.{Command}
use Rattle.nr_command.specs.declared.command.Command.TheVariants as commands
use Rattle.nr_command.specs.declared.command.Query.{Query}
use Rattle.nr_command.specs.declared.command.Query.TheVariants as queries
use Rattle.nr_command.specs.declared.debugger.Debugger.{Debugger}
use Rattle.nr_command.specs.declared.reply.Fault.TheVariants as faults
use Rattle.nr_command.specs.declared.reply.Reply.{Reply}
use Rattle.nr_command.specs.declared.reply.Reply.TheVariants as replies

-- the state before the first command
abbrev pub opening : Debugger
opening = record { position = 0; direction = Forward; marks = empty; checkpoints = empty }

-- the reply to a command, and the debugger after it
abbrev pub Ran : Type 0
Ran = Reply × Debugger

-- the debugger at another position
abbrev pub moved_to : ℕ → Debugger → Debugger
moved_to p d = record d { position = p }

-- goes to the end of the recording in this direction, and replies that the debugger is at that end
abbrev pub to_end : Direction → ℕ → Debugger → Ran
to_end Forward last d = (replies.AtEnd last, moved_to last d)
to_end Backward last d = (replies.AtStart, moved_to 0 d)

-- goes this many steps in that direction, but not beyond the end of the recording
abbrev pub step : Direction → ℕ → ℕ → Debugger → Ran
step Forward n last d = if nat_lt last (d.position + n) then to_end Forward last d
    else (replies.At (d.position + n), moved_to (d.position + n) d)
step Backward n last d = if nat_lt d.position n then to_end Backward last d
    else (replies.At (d.position - n), moved_to (d.position - n) d)

-- Goes to the hit that was found, replies with the marks that hit there, and deletes the temporary
-- ones among them. If there is no hit, it goes to the end in that direction, and the marks stay.
abbrev pub stop_at : Direction → Recording → Debugger → Found → Ran
stop_at way r d (Hit h) = (
  replies.AtHit h.position h.marks,
  record d { position = h.position; marks = after_stop h.marks.items d.marks },
)
stop_at way r d Nothing = to_end way (length r.steps) d

-- goes to the nearest hit in that direction
abbrev pub continue : Direction → Recording → Debugger → Ran
continue way r d = stop_at way r d (nearest_hit way r d.marks.present d.position)

-- adds a mark
abbrev pub mark_made : Mark → Debugger → Result ℕ MarkFault → Ran
mark_made mark d (Ok number) =
    (replies.MarkMade number, record d { marks = with_item mark d.marks })
mark_made mark d (Err fault) = (replies.Fault (faults.Mark fault), d)

-- makes a mark with the next number, or replies with the fault
abbrev pub make_mark : Mark → Debugger → Ran
make_mark mark d = mark_made mark d (next_number d.marks)

-- removes a mark
abbrev pub mark_deleted : ℕ → Debugger → Result (Unit {0}) MarkFault → Ran
mark_deleted number d (Ok _) =
    (replies.MarkDeleted number, record d { marks = without_item number d.marks })
mark_deleted number d (Err fault) = (replies.Fault (faults.Mark fault), d)

-- deletes the mark with this number, or replies with the fault
abbrev pub delete_mark : ℕ → Debugger → Ran
delete_mark number d = mark_deleted number d (mark_deletion number d.marks)

-- adds a checkpoint for the position
abbrev pub position_kept : Debugger → Result Checkpoint CheckpointFault → Ran
position_kept d (Ok made) =
    (replies.CheckpointMade made, record d { checkpoints = with_item d.position d.checkpoints })
position_kept d (Err fault) = (replies.Fault (faults.Checkpoint fault), d)

-- keeps the position as the next checkpoint, or replies with the fault
abbrev pub keep_position : Debugger → Ran
keep_position d = position_kept d (next_checkpoint d.position d.checkpoints)

-- goes to the position of a checkpoint, or replies that no such checkpoint exists
abbrev pub restarted : Debugger → Option ℕ → Ran
restarted d (Some p) = (replies.At p, moved_to p d)
restarted d None = (replies.Fault (faults.Checkpoint NoSuchCheckpoint), d)

-- goes to the checkpoint with this number; checkpoint 0 is the start
abbrev pub restart : ℕ → Debugger → Ran
restart number d =
    if number == 0 then (replies.At 0, moved_to 0 d) else restarted d (item_of number d.checkpoints)

-- removes a checkpoint
abbrev pub checkpoint_deleted : ℕ → Debugger → Result (Unit {0}) CheckpointFault → Ran
checkpoint_deleted number d (Ok _) =
    (replies.CheckpointDeleted number, record d { checkpoints = without_item number d.checkpoints })
checkpoint_deleted number d (Err fault) = (replies.Fault (faults.Checkpoint fault), d)

-- deletes the checkpoint with this number, or replies with the fault
abbrev pub delete_checkpoint : ℕ → Debugger → Ran
delete_checkpoint number d =
    checkpoint_deleted number d (checkpoints.checkpoint_deletion number d.checkpoints)

-- The effect of a command. `stepi` and `continue` go in the current direction, and commands whose
-- names begin with `reverse` go backwards.
abbrev pub run : Recording → Command → Debugger → Ran
run r (commands.Step count) d = step d.direction count.value (length r.steps) d
run r (commands.ReverseStep count) d = step Backward count.value (length r.steps) d
run r commands.Continue d = continue d.direction r d
run r commands.ReverseContinue d = continue Backward r d
run r (commands.SetDirection way) d = (replies.Direction way, record d { direction = way })
run r (commands.Break wanted) d = make_mark (marks.Break wanted) d
run r (commands.TemporaryBreak wanted) d = make_mark (marks.TemporaryBreak wanted) d
run r (commands.Watch c) d = make_mark (marks.Watch c) d
run r (commands.Delete number) d = delete_mark number d
run r commands.Checkpoint d = keep_position d
run r (commands.Restart number) d = restart number d
run r (commands.DeleteCheckpoint number) d = delete_checkpoint number d

-- true if a search in this direction needs worlds: there is a watch, and the search visits a
-- position other than the start
abbrev pub NeedsWorlds : Direction → Recording → Debugger → Type 0
NeedsWorlds way r d = (any_watch d.marks.present ≡ true) × NeedsCopy way r d.position

-- True if the command searches the recording with copies of its worlds: the command is `continue`
-- or `reverse-continue`, there is a watch, and the search visits a position other than the start.
abbrev pub Searches : Recording → Command → Debugger → Type 0
Searches r commands.Continue d = NeedsWorlds d.direction r d
Searches r commands.ReverseContinue d = NeedsWorlds Backward r d
Searches r _ d = ⊥

-- the debugger after a word; a word that isn't the word of a command changes nothing
abbrev pub after_tagged : Recording → Debugger → Option (ℕ × Command) → Debugger
after_tagged r d None = d
after_tagged r d (Some tagged) = (run r tagged.1 d).1

-- the debugger after it has run the words of a history
abbrev pub after_words : Recording → Debugger → List ℕ → Debugger
after_words r d [] = d
after_words r d (word ∷ words) = after_words r (after_tagged r d (command_of word)) words

-- the reply to a query about the world at the position, or about the debugger itself
abbrev pub query_reply : Recording → Debugger → Query → Reply
query_reply r d (queries.Print c) = replies.Printed c (cell (world_at r d.position) c)
query_reply r d (queries.DumpBytes side s) =
    replies.Bytes side s (bytes_of (world_at r d.position) s side)
query_reply r d (queries.DumpQueue side s) =
    replies.Queue side s (queue_of (world_at r d.position) s side)
query_reply r d queries.Position = replies.Position d.position (length r.steps) d.direction
query_reply r d queries.Breakpoints = replies.Marks (record { items = d.marks.present })
query_reply r d queries.Checkpoints = replies.Checkpoints (record { items = d.checkpoints.present })
