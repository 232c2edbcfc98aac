-- Each reply has a text.
use Rattle.std.proofs.Common.{◌≡◌, ℕ, ◌<◌, List, ◌++◌, true, arith, length, nat_lt, length-append, codes}
use Rattle.std.proofs.lemmas.Bool.{lt-ltb}
use Rattle.nr_command.specs.declared.command.LineFault.TheVariants.{UnknownCommand, BadArgument, TooLong}
use Rattle.nr_command.specs.declared.checkpoint.CheckpointFault.TheVariants.{NoSuchCheckpoint, CheckpointsFull}
use Rattle.nr_command.specs.declared.reply.Fault.{Fault}
use Rattle.nr_command.specs.declared.reply.Fault.TheVariants as faults
use Rattle.nr_command.specs.declared.reply.Reply.{Reply}
use Rattle.nr_command.specs.declared.reply.Reply.TheVariants as replies
use Rattle.nr_command.specs.Reply.{reply_fault_text, text_of}
use Rattle.nr_marks.specs.declared.marks.MarkFault.TheVariants.{NoSuchMark, MarksFull}

some_behind : (a b : List ℕ) → 0 < length b → 0 < length (a ++ b)
some_behind a b h = omega (arith, length-append a b)

some_fault : (fault : Fault) → 0 < length (reply_fault_text fault)
some_fault (faults.Line UnknownCommand) = omega arith
some_fault (faults.Line BadArgument) = omega arith
some_fault (faults.Line TooLong) = omega arith
some_fault (faults.Memory refused) = omega arith
some_fault (faults.Placed place) = omega arith
some_fault faults.JournalFull = omega arith
some_fault (faults.Mark NoSuchMark) = omega arith
some_fault (faults.Mark MarksFull) = omega arith
some_fault (faults.Checkpoint NoSuchCheckpoint) = omega arith
some_fault (faults.Checkpoint CheckpointsFull) = omega arith

some_text : (reply : Reply) → 0 < length (text_of reply)
some_text (replies.Printed cell value) = some_behind _ (codes "\n") (omega arith)
some_text (replies.Bytes side s bytes) = some_behind _ (codes "\n") (omega arith)
some_text (replies.Queue side s queue) = some_behind _ (codes "\n") (omega arith)
some_text (replies.Fault fault) = some_fault fault
some_text _ = omega arith

pub has_text : (reply : Reply) → nat_lt 0 (length (text_of reply)) ≡ true
has_text reply = lt-ltb 0 (length (text_of reply)) (some_text reply)
