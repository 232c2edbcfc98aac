-- The text of a reply.
use Rattle.std.specs.Prelude.{ℕ, List, [], ◌∷◌, ◌++◌, flat_map, Option, Some, None, codes, decimal}
use Rattle.nr_rev.specs.declared.sides.Side.{Side}
use Rattle.nr_rev.specs.declared.sides.Side.TheVariants.{Read, Write}
use Rattle.nr_text.specs.Text.{hex_pair, spaced_number}
use Rattle.nr_command.specs.Value.{cell_text, value_text}
use Rattle.nr_command.specs.Listing.{checkpoints_text, marks_text}
use Rattle.nr_command.specs.declared.checkpoint.CheckpointFault.TheVariants.{NoSuchCheckpoint, CheckpointsFull}
use Rattle.nr_command.specs.declared.command.LineFault.TheVariants.{UnknownCommand, BadArgument, TooLong}
use Rattle.nr_search.specs.declared.direction.Direction.{Direction}
use Rattle.nr_search.specs.declared.direction.Direction.TheVariants.{Forward, Backward}
use Rattle.nr_marks.specs.declared.marks.MarkFault.TheVariants.{NoSuchMark, MarksFull}
use Rattle.nr_command.specs.declared.reply.Fault.{Fault}
use Rattle.nr_command.specs.declared.reply.Fault.TheVariants as faults
use Rattle.nr_command.specs.declared.reply.Reply.{Reply}
use Rattle.nr_command.specs.declared.reply.Reply.TheVariants as replies

-- the text of a fault: its number and its meaning
abbrev pub reply_fault_text : Fault → List ℕ
reply_fault_text (faults.Line UnknownCommand) = codes "fault 201 unknown command\n"
reply_fault_text (faults.Line BadArgument) = codes "fault 202 bad argument\n"
reply_fault_text (faults.Line TooLong) = codes "fault 203 line too long\n"
reply_fault_text (faults.Memory refused) = codes "fault 301 memory\n"
reply_fault_text (faults.Placed place) =
    codes "fault 302 memory, placed " ++ decimal place ++ codes "\n"
reply_fault_text faults.JournalFull = codes "fault 303 journal full\n"
reply_fault_text (faults.Mark NoSuchMark) = codes "fault 401 no such mark\n"
reply_fault_text (faults.Mark MarksFull) = codes "fault 402 marks full\n"
reply_fault_text (faults.Checkpoint NoSuchCheckpoint) = codes "fault 403 no such checkpoint\n"
reply_fault_text (faults.Checkpoint CheckpointsFull) = codes "fault 404 checkpoints full\n"

-- the name of a direction
abbrev pub direction_text : Direction → List ℕ
direction_text Forward = codes "forward"
direction_text Backward = codes "reverse"

-- the bytes of a buffer, if there is one
abbrev pub bytes_text : Option (List ℕ) → List ℕ
bytes_text None = codes "absent"
bytes_text (Some []) = codes "-"
bytes_text (Some (b ∷ bs)) = flat_map hex_pair (b ∷ bs)

-- the goroutines of a queue, if there is one, each after a space
abbrev pub queue_text : Option (List ℕ) → List ℕ
queue_text None = codes " absent"
queue_text (Some []) = codes " -"
queue_text (Some (g ∷ gs)) = flat_map spaced_number (g ∷ gs)

-- the name of a buffer
abbrev pub buffer_name : Side → List ℕ
buffer_name Read = codes "in "
buffer_name Write = codes "out "

-- the name of a queue
abbrev pub queue_name : Side → List ℕ
queue_name Read = codes "rq "
queue_name Write = codes "wq "

-- the text of a reply, with its line feeds
abbrev pub text_of : Reply → List ℕ
text_of (replies.At p) = codes "at " ++ decimal p ++ codes "\n"
text_of (replies.AtEnd p) = codes "at " ++ decimal p ++ codes " end\n"
text_of replies.AtStart = codes "at 0 start\n"
text_of (replies.AtHit p marks) =
    codes "at " ++ decimal p ++ codes " by" ++ flat_map spaced_number marks.items ++ codes "\n"
text_of (replies.Direction direction) = codes "direction " ++ direction_text direction ++ codes "\n"
text_of (replies.MarkMade n) = codes "mark " ++ decimal n ++ codes "\n"
text_of (replies.MarkDeleted n) = codes "deleted mark " ++ decimal n ++ codes "\n"
text_of (replies.CheckpointMade c) =
    codes "checkpoint " ++ decimal c.number ++ codes " at " ++ decimal c.item ++ codes "\n"
text_of (replies.CheckpointDeleted n) = codes "deleted checkpoint " ++ decimal n ++ codes "\n"
text_of (replies.Printed cell value) =
    cell_text cell ++ codes " = " ++ value_text value ++ codes "\n"
text_of (replies.Bytes side s bytes) =
    buffer_name side ++ decimal s ++ codes " = " ++ bytes_text bytes ++ codes "\n"
text_of (replies.Queue side s queue) =
    queue_name side ++ decimal s ++ codes " =" ++ queue_text queue ++ codes "\n"
text_of (replies.Position p last direction) =
    codes "at " ++ decimal p ++ codes " of " ++ decimal last ++ codes " "
    ++ direction_text direction ++ codes "\n"
text_of (replies.Marks marks) = marks_text marks.items
text_of (replies.Checkpoints checkpoints) = checkpoints_text checkpoints.items
text_of replies.NothingOwed = codes "nothing owed\n"
text_of replies.Bye = codes "bye\n"
text_of (replies.Fault fault) = reply_fault_text fault
