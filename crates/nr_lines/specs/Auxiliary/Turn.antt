-- Helper definitions for `Turn`. The laws in THEOREM.md don't use them.
use Rattle.std.specs.Prelude.{◌≡◌, ℕ, ◌+◌, nat_lt, List, length, Option, Some, None, Result, Ok, Err, if◌then◌else◌}
use Rattle.nr_command.specs.Command.{meaning_of}
use Rattle.nr_text.specs.Streams.{saturating_count}
use Rattle.nr_command.specs.declared.command.Line.{Line}
use Rattle.nr_command.specs.declared.command.Line.TheVariants.{Run, Look, Resume, Quit, Empty}
use Rattle.nr_command.specs.declared.command.LineFault.{LineFault}
use Rattle.nr_command.specs.declared.reply.Fault.TheVariants as faults
use Rattle.nr_command.specs.declared.reply.Reply.{Reply}
use Rattle.nr_command.specs.declared.reply.Reply.TheVariants.{NothingOwed, Bye, Fault}
use Rattle.nr_front.specs.FrontState.{FrontState}
use Rattle.nr_front.specs.Front.{Executes, Looks, Resumes}
use Rattle.nr_front.specs.declared.fault.FrontFault.{FrontFault}
use Rattle.nr_front.specs.declared.fault.FrontFault.TheVariants.{Memory, Placed, Full}
use Rattle.nr_lines.specs.Turn.{text_or_none}

-- the reply that reports this fault
abbrev pub fault_reply : FrontFault → Reply
fault_reply (Memory refused) = Fault (faults.Memory refused)
fault_reply (Placed place) = Fault (faults.Placed place)
fault_reply Full = Fault faults.JournalFull

-- the reply to a command or to a query
abbrev pub reply_given : Result Reply FrontFault → Reply
reply_given (Ok reply) = reply
reply_given (Err fault) = fault_reply fault

-- the reply to `resume`
abbrev pub resumed : Result (Option Reply) FrontFault → Reply
resumed (Ok None) = NothingOwed
resumed (Ok (Some reply)) = reply
resumed (Err fault) = fault_reply fault

-- True if a front may give this reply to this line and be in this state afterwards. For a command,
-- a query or `resume`, the reply and the state are those of the front's call.
abbrev pub MayReply : Result Line LineFault → FrontState → Option Reply → FrontState → Type 0
MayReply (Ok (Run command)) d reply d' = (given : Result Reply FrontFault)
    × Executes command d d' given × (reply ≡ Some (reply_given given))
MayReply (Ok (Look query)) d reply d' =
    (given : Result Reply FrontFault) × Looks query d d' given × (reply ≡ Some (reply_given given))
MayReply (Ok Resume) d reply d' =
    (given : Result (Option Reply) FrontFault) × Resumes d d' given × (reply ≡ Some (resumed given))
MayReply (Ok Quit) d reply d' = (reply ≡ Some Bye) × (d' ≡ d)
MayReply (Ok Empty) d reply d' = (reply ≡ None) × (d' ≡ d)
MayReply (Err fault) d reply d' = (reply ≡ Some (Fault (faults.Line fault))) × (d' ≡ d)

-- True if a front may answer this line with this text and be in this state afterwards.
abbrev pub Turn : FrontState → List ℕ → List ℕ → FrontState → Type 0
Turn d line text d' =
    (reply : Option Reply) × MayReply (meaning_of line) d reply d' × (text ≡ text_or_none reply)

-- the count plus one if the text isn't empty
abbrev pub count_with : ℕ → List ℕ → ℕ
count_with n text = if nat_lt 0 (length text) then saturating_count (n + 1) else n
