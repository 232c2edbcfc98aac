-- The transcript: the replies to a front's lines, as a function of the bytes.
use Rattle.std.specs.Prelude.{◌≡◌, ◌≢◌, ◌⊎◌, ℕ, ◌+◌, Bool, true, false, not, ◌||◌, List, [], ◌∷◌, ◌++◌, drop, Option, Some, None, Result, Ok, Err, ⊤, if◌then◌else◌}
use Rattle.nr_text.specs.Moments.{Moment}
use Rattle.nr_text.specs.Streams.{Incoming, IsOver, Outgoing, Passes, Receives, Sends}
use Rattle.std.specs.List.{All, concat}
use Rattle.nr_rev.specs.Refusing.{refused_memory}
use Rattle.nr_rev.specs.Run.{Recording}
use Rattle.nr_journal.specs.Rule.{StartsWith}
use Rattle.nr_recording.specs.Faults.{memory_line}
use Rattle.nr_command.specs.Command.{meaning_of}
use Rattle.nr_command.specs.Debugger.{Ran, Searches, opening, query_reply, run}
use Rattle.nr_command.specs.declared.command.Command.{Command}
use Rattle.nr_command.specs.declared.command.Line.{Line}
use Rattle.nr_command.specs.declared.command.Line.TheVariants.{Run, Look, Resume, Quit, Empty}
use Rattle.nr_command.specs.declared.command.LineFault.{LineFault}
use Rattle.nr_command.specs.declared.command.Query.{Query}
use Rattle.nr_command.specs.declared.debugger.Debugger.{Debugger}
use Rattle.nr_command.specs.declared.reply.Fault.TheVariants as faults
use Rattle.nr_command.specs.declared.reply.Reply.{Reply}
use Rattle.nr_command.specs.declared.reply.Reply.TheVariants.{NothingOwed, Bye, Fault}
use Rattle.nr_lines.specs.Engine.{has_quit, lines_of}
use Rattle.nr_lines.specs.Turn.{is_quit, text_or_none}
use Rattle.nr_programs.specs.Opening.{fault_line, opened}
use Rattle.nr_programs.specs.Run.{PrintsFault}
use Rattle.nr_programs.specs.declared.opening.OpenFault.{OpenFault}
use Rattle.nr_programs.specs.declared.run.ExitStatus.{ExitStatus}
use Rattle.nr_programs.specs.declared.run.ExitStatus.TheVariants.{Done, Refused, StreamFailed}

-- ---- memory and journal room for a line

-- Whether there is enough memory and journal room for a line. `enough`: there is enough of both.
-- `no_memory`: memory runs out. `no_memory_to_search`: the line's command is placed and then runs
-- out of memory while it searches. `no_room`: the journal is full.
pub data Supply : Type 0 where
  enough : Supply
  no_memory : Supply
  no_memory_to_search : Supply
  no_room : Supply

-- the `Supply` of the next line, or `enough` if the list is empty
abbrev pub next_supply : List Supply → Supply
next_supply [] = enough
next_supply (supply ∷ supplies) = supply

-- ---- a front between two lines

-- The debugger after the words placed so far, the number of these words, and the command whose
-- reply is owed. If there is such a command, its word is the last one, and the debugger hasn't run
-- it yet.
pub record SessionState : Type 0 where
  pub debugger : Debugger
  pub placed : ℕ
  pub owed : Option Command

-- the session before the first line
abbrev pub start : SessionState
start = record { debugger = opening; placed = 0; owed = None }

-- the reply to a line, if it has a reply, and the front after it
abbrev pub Answered : Type 0
Answered = Option Reply × SessionState

-- the answer to a command that was run; its word is the last one
abbrev pub with_run : Ran → ℕ → Answered
with_run ran placed = (Some ran.0, record { debugger = ran.1; placed = placed; owed = None })

-- the answer if the reply to the last word is owed
abbrev pub owing : SessionState → Answered
owing s = (Some (Fault (faults.Placed s.placed)), s)

-- the answer to a command, which is placed and run
abbrev pub command_answer : Recording → Command → Supply → SessionState → Answered
command_answer r command enough s = with_run (run r command s.debugger) (s.placed + 1)
command_answer r command no_memory s = (Some (Fault (faults.Memory refused_memory)), s)
command_answer r command no_memory_to_search s =
    owing (record s { placed = s.placed + 1; owed = Some command })
command_answer r command no_room s = (Some (Fault faults.JournalFull), s)

-- the answer to a query, which reads the debugger's state
abbrev pub look_answer : Recording → Query → Supply → SessionState → Answered
look_answer r query enough s = (Some (query_reply r s.debugger query), s)
look_answer r query _ s = (Some (Fault (faults.Memory refused_memory)), s)

-- the answer to a line when no reply is owed
abbrev pub answer : Recording → Result Line LineFault → Supply → SessionState → Answered
answer r (Ok (Run command)) supply s = command_answer r command supply s
answer r (Ok (Look query)) supply s = look_answer r query supply s
answer r (Ok Resume) supply s = (Some NothingOwed, s)
answer r (Ok Quit) supply s = (Some Bye, s)
answer r (Ok Empty) supply s = (None, s)
answer r (Err fault) supply s = (Some (Fault (faults.Line fault)), s)

-- the answer to `resume`, which is the owed reply
abbrev pub resume_answer : Recording → Command → Supply → SessionState → Answered
resume_answer r command enough s = with_run (run r command s.debugger) s.placed
resume_answer r command _ s = owing s

-- the answer to a line when the reply to this command is owed
abbrev pub answer_owing : Recording → Command → Result Line LineFault → Supply → SessionState
    → Answered
answer_owing r command (Ok (Run next)) supply s = owing s
answer_owing r command (Ok (Look query)) supply s = owing s
answer_owing r command (Ok Resume) supply s = resume_answer r command supply s
answer_owing r command asked supply s = answer r asked supply s

-- the answer to a line, given the command whose reply is owed, if any
abbrev pub line_answer : Recording → Option Command → Result Line LineFault → Supply → SessionState
    → Answered
line_answer r None asked supply s = answer r asked supply s
line_answer r (Some command) asked supply s = answer_owing r command asked supply s

-- ---- when memory or journal room can run out

-- the number of words for which a journal has room, and its maximum number of passes
pub record JournalSize : Type 0 where
  pub room : ℕ
  pub passes : ℕ

-- the journal of a session with one front: 65,536 words and one pass
abbrev pub journal_of_one : JournalSize
journal_of_one = record { room = 65536; passes = 1 }

-- True if this `Supply` is possible for a command when the session is in this state. A command can
-- run out of memory before it is placed only if the journal has more than one pass, because only
-- then can other fronts have placed words. A placed command can run out of memory only if it
-- searches through copies of worlds. The journal is full only if it has no room for another word.
abbrev pub CommandMayHave : Recording → JournalSize → Command → Supply → SessionState → Type 0
CommandMayHave r journal command enough s = ⊤
CommandMayHave r journal command no_memory s = journal.passes ≢ 1
CommandMayHave r journal command no_memory_to_search s = Searches r command s.debugger
CommandMayHave r journal command no_room s = s.placed ≡ journal.room

-- true if this `Supply` is possible for a query: a query can run out of memory, but needs no room
-- in the journal
abbrev pub LookMayHave : Supply → Type 0
LookMayHave enough = ⊤
LookMayHave no_memory = ⊤
LookMayHave no_memory_to_search = ⊥
LookMayHave no_room = ⊥

-- true if this `Supply` is possible for `resume`: the command whose reply is owed can run out of
-- memory again while it searches
abbrev pub ResumeMayHave : Recording → Command → Supply → SessionState → Type 0
ResumeMayHave r command enough s = ⊤
ResumeMayHave r command no_memory s = Searches r command s.debugger
ResumeMayHave r command no_memory_to_search s = ⊥
ResumeMayHave r command no_room s = ⊥

-- True if this `Supply` is possible for a line, given the command whose reply is owed and the size
-- of the journal. If no reply is owed, a command or a query can run out of memory, and a command
-- can also find the journal full. If a reply is owed, `resume` can run out of memory. In all other
-- cases, there is enough memory and journal room.
abbrev pub MayHave : Recording → JournalSize → Option Command → Result Line LineFault → Supply
    → SessionState → Type 0
MayHave r journal None (Ok (Run command)) supply s = CommandMayHave r journal command supply s
MayHave r journal None (Ok (Look query)) supply s = LookMayHave supply
MayHave r journal (Some command) (Ok Resume) supply s = ResumeMayHave r command supply s
MayHave r journal owed asked supply s = supply ≡ enough

-- ---- line after line

-- the replies to these lines, one text per line, up to the first `quit`
abbrev pub texts : Recording → SessionState → List (List ℕ) → List Supply → List (List ℕ)
texts r s [] supplies = []
texts r s (line ∷ lines) supplies =
    let asked = meaning_of line in
    let a = line_answer r s.owed asked (next_supply supplies) s in
    text_or_none a.0 ∷ (if is_quit asked then [] else texts r a.1 lines (drop 1 supplies))

-- a condition on the lines after a line, or no condition if that line is `quit`
abbrev pub UnlessQuit : Bool → Type 0 → Type 0
UnlessQuit true later = ⊤
UnlessQuit false later = later

-- true if the `Supply` of each line, up to the first `quit`, is possible
abbrev pub AllMayHave : Recording → JournalSize → SessionState → List (List ℕ) → List Supply
    → Type 0
AllMayHave r journal s [] supplies = ⊤
AllMayHave r journal s (line ∷ lines) supplies =
    let asked = meaning_of line in
    let a = line_answer r s.owed asked (next_supply supplies) s in
    MayHave r journal s.owed asked (next_supply supplies) s
    × UnlessQuit (is_quit asked) (AllMayHave r journal a.1 lines (drop 1 supplies))

-- The replies to the lines of a text, given the `Supply` of each line. The bytes after the last
-- line feed are a line only if the text is complete (`ended`).
abbrev pub replies : Recording → SessionState → Bool → List ℕ → List Supply → List ℕ
replies r s ended commands supplies = concat (texts r s (lines_of ended commands) supplies)

-- the replies to commands over the opened run, or the line of its fault
abbrev pub replies_over : Result Recording OpenFault → Bool → List ℕ → List Supply → List ℕ
replies_over (Ok r) ended commands supplies = replies r start ended commands supplies
replies_over (Err fault) ended commands supplies = fault_line fault

-- The transcript for a recording's bytes and for commands, given the `Supply` of each command line.
abbrev pub transcript_by : List ℕ → Bool → List ℕ → List Supply → List ℕ
transcript_by recording ended commands supplies =
    replies_over (opened recording) ended commands supplies

-- ---- the effect of the program

-- the exit status, given the opened recording or its fault, and whether a read or a write failed
abbrev pub status_of : Result Recording OpenFault → Bool → Bool → ExitStatus
status_of (Ok r) read_failed write_failed =
    if read_failed || write_failed then StreamFailed else Done
status_of (Err fault) read_failed write_failed = if write_failed then StreamFailed else Refused

-- At each read, the bytes sent so far were the transcript of the bytes received so far: each whole
-- line was answered, and its reply was sent. No earlier read had reached the end of the input.
pub record WasPrompt (recording : List ℕ) (from : Incoming) (old : Outgoing)
    (supplies : List Supply) (m : Moment) : Type 0 where
  pub commands : List ℕ
  pub received : m.received ≡ from.received ++ commands
  pub sent : m.sent ≡ old.sent ++ transcript_by recording false commands supplies
  pub unended : from.ended ≡ false → m.ended ≡ false

-- Commands were read and replies were written. The replies are a prefix of the transcript of the
-- commands, given the `Supply` of each line. They are the whole transcript unless a write failed.
-- If a read failed, an unfinished last line isn't a command. Before each read, all whole lines had
-- been answered. If the status is `Done`, the input is at its end or a line is `quit`. If the
-- recording has a fault, no command was read.
pub record Transcribes (recording : List ℕ) (from left : Incoming) (old new : Outgoing)
    (status : ExitStatus) : Type 0 where
  pub commands : List ℕ
  pub written : List ℕ
  pub supplies : List Supply
  pub moments : List Moment
  pub reads : Receives from left commands
  pub writes : Sends old new written
  pub passes : Passes from left moments
  pub prompt : All (WasPrompt recording from old supplies) moments
  pub may : (r : Recording) → opened recording ≡ Ok r
      → AllMayHave r journal_of_one start (lines_of (not left.failed) commands) supplies
  pub begins : StartsWith (transcript_by recording (not left.failed) commands supplies) written
  pub whole : new.failed ≡ false
      → written ≡ transcript_by recording (not left.failed) commands supplies
  pub complete : status ≡ Done
      → IsOver left ⊎ (has_quit (lines_of false commands) ≡ true)
  pub unread : (fault : OpenFault) → opened recording ≡ Err fault → commands ≡ []
  pub ends : status ≡ status_of (opened recording) left.failed new.failed

-- The program `run` wrote its transcript; or memory ran out at the start, and only the line for
-- that was printed.
abbrev pub RunsTranscript : List ℕ → Incoming → Incoming → Outgoing → Outgoing → ExitStatus
    → Type 0
RunsTranscript recording from left old new status =
    Transcribes recording from left old new status
    ⊎ PrintsFault memory_line from left old new status
