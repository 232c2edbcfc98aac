-- Notices. A notice is the effect of a step, as far as it matters for finding suspects.
use Rattle.std.specs.Prelude.{ℕ, Bool, true, false, ◌&&◌, not, if◌then◌else◌, Option, Some, None, option_map, slice_get, Ok, Err}
use Rattle.std.specs.Option.{option_map_or}
use Rattle.nr_rev.specs.contracts.answer.AnswerPartialEq.TheImpl as answer_eq
use Rattle.nr_rev.specs.declared.answer.Answer.{Answer}
use Rattle.nr_rev.specs.declared.answer.Answer.TheVariants.{Again, Code, Done, Number, Yes}
use Rattle.nr_rev.specs.declared.cell.Cell.{Cell}
use Rattle.nr_rev.specs.declared.cell_value.CellValue.{CellValue}
use Rattle.nr_rev.specs.declared.descriptor.WaitWord.TheVariants.{Held, Ready}
use Rattle.nr_rev.specs.declared.sides.Side.{Side}
use Rattle.nr_rev.specs.declared.sides.Side.TheVariants.{Read, Write}
use Rattle.nr_rev.specs.declared.step.Step.{Step}
use Rattle.nr_rev.specs.declared.timer.Entry.{Entry}
use Rattle.nr_rev.specs.Cell.{cell}
use Rattle.nr_rev.specs.Descriptor.{is_negative}
use Rattle.nr_rev.specs.Run.{Recording, world_at}
use Rattle.nr_rev.specs.Step.{Outcome, outcome}
use Rattle.nr_rev.specs.World.{World, wait_of}
use Rattle.nr_suspects.specs.declared.notice.Notice.{Notice}
use Rattle.nr_suspects.specs.declared.notice.Notice.TheVariants.{Opened, Event, Tried, TookReadiness, Checked, SetDeadline, PassedDeadline, TookReference, GaveReference, SocketOpened, PeerClosed, Nothing}
use Rattle.nr_suspects.specs.declared.notice.Passing.{Passing}
use Rattle.nr_suspects.specs.declared.notice.Visit.{Visit}

-- the cell that holds the wait word for this side of descriptor d
abbrev pub word_cell : ℕ → Side → Cell
word_cell d Read = Cell.ReadWord d
word_cell d Write = Cell.WriteWord d

-- true if a value is the word `ready`
abbrev pub is_ready_word : CellValue → Bool
is_ready_word (CellValue.WaitWord Ready) = true
is_ready_word _ = false

-- true if the word of a side of descriptor d is `ready`: an event came, and no goroutine has taken
-- it
abbrev pub is_ready : World → ℕ → Side → Bool
is_ready w d side = is_ready_word (cell w (word_cell d side))

-- the descriptor and side at which a goroutine with this status waits
abbrev pub wait_place : CellValue → Option (ℕ × Side)
wait_place (CellValue.Status status) = wait_of status
wait_place _ = None

-- goroutine g with the descriptor and side at this place, if any
abbrev pub visit_at : ℕ → Option (ℕ × Side) → Option Visit
visit_at g = option_map (λ place. record { goroutine = g; descriptor = place.0; side = place.1 })

-- goroutine g with the descriptor and side at which it waits, if it waits
abbrev pub visit_of : World → ℕ → Option Visit
visit_of w g = visit_at g (wait_place (cell w (Cell.Goroutine g)))

-- The side of a descriptor that a step visits, and the goroutine of the step. pollreset and
-- waitbegin name the side. For blockarm, blockswap and waitcheck, it is the side at which the
-- goroutine waits.
abbrev pub visit : World → Step → Option Visit
visit w (Step.PollReset g d side) = Some (record { goroutine = g; descriptor = d; side = side })
visit w (Step.WaitBegin g d side) = Some (record { goroutine = g; descriptor = d; side = side })
visit w (Step.BlockArm g) = visit_of w g
visit w (Step.BlockSwap g) = visit_of w g
visit w (Step.WaitCheck g) = visit_of w g
visit w _ = None

-- true if the step consumed the readiness notification of the visited side: the word was `ready`
-- before the step, and isn't after it
abbrev pub is_taken : World → World → Visit → Bool
is_taken w next v = is_ready w v.descriptor v.side && not (is_ready next v.descriptor v.side)

-- the notice that the visiting goroutine checked its side and got a code, if the answer is a code
abbrev pub checking : Visit → Answer → Notice
checking v (Code code) = Checked v code
checking v _ = Nothing

-- the notice of a step that visits a side: it consumed the readiness notification or checked the
-- side
abbrev pub visiting : World → World → Answer → Option Visit → Notice
visiting w next answer None = Nothing
visiting w next answer (Some v) = if is_taken w next v then TookReadiness v else checking v answer

-- the cell that holds the deadline for this side of descriptor d
abbrev pub deadline_cell : ℕ → Side → Cell
deadline_cell d Read = Cell.ReadDeadline d
deadline_cell d Write = Cell.WriteDeadline d

-- true if a value is a negative time, which marks a deadline that has passed
abbrev pub is_past : CellValue → Bool
is_past (CellValue.Time t) = is_negative t
is_past _ = false

-- true if the deadline of a side of descriptor d has passed
abbrev pub has_passed : World → ℕ → Side → Bool
has_passed w d side = is_past (cell w (deadline_cell d side))

-- the goroutine that a word holds
abbrev pub held_goroutine : CellValue → Option ℕ
held_goroutine (CellValue.WaitWord (Held g)) = Some g
held_goroutine _ = None

-- `Some` if the deadline of a side passed in this step. `woken` is then the goroutine that the
-- side's word held before the step, if it held one.
abbrev pub passing : World → World → ℕ → Side → Option Passing
passing w next d side =
    if not (has_passed w d side) && has_passed next d side
    then Some (record { woken = held_goroutine (cell w (word_cell d side)) }) else None

-- the descriptor of the timer that a step runs
abbrev pub fired_descriptor : World → Step → Option ℕ
fired_descriptor w (Step.Fire i) =
    option_map (λ (entry : Entry). entry.descriptor) (slice_get w.firings i)
fired_descriptor w _ = None

-- the notice of a step that runs a timer for this descriptor, or the given notice if the step runs
-- no timer
abbrev pub running : World → World → Option ℕ → Notice → Notice
running w next None other = other
running w next (Some d) other =
    PassedDeadline d (record { read = passing w next d Read; write = passing w next d Write })

-- the given notice if the answer is the expected one, and otherwise `Nothing`
abbrev pub if_answered : Answer → Answer → Notice → Notice
if_answered wanted answer n = if (answer_eq.ghosts).eq answer wanted then n else Nothing

-- the notice that a descriptor was opened for socket s; the answer is the descriptor's number
abbrev pub notice_of_opening : ℕ → Answer → Notice
notice_of_opening s (Number d) = Opened d s
notice_of_opening s _ = Nothing

-- the notice that a socket with this much room for writing was opened; the answer is the socket's
-- number
abbrev pub notice_of_socket : ℕ → Answer → Notice
notice_of_socket capacity (Number s) = SocketOpened s capacity
notice_of_socket capacity _ = Nothing

-- the notice of a step that runs a timer or visits a side
abbrev pub seen : World → Step → Answer → World → Notice
seen w step answer next =
    running w next (fired_descriptor w step) (visiting w next answer (visit w step))

-- The notice of a step with this answer: a socket or a descriptor was opened, a peer closed, an
-- event came for a descriptor, a read or a write was answered `Again`, a deadline was set, or a
-- reference was taken or returned. The last argument is the notice of a step that runs a timer or
-- visits a side.
abbrev pub noticed : Step → Answer → Notice → Notice
noticed (Step.SockOpen rc wc) answer other = notice_of_socket wc answer
noticed (Step.PeerClose s) answer other = PeerClosed s
noticed (Step.PollOpen g s) answer other = notice_of_opening s answer
noticed (Step.PollEvent d tag mode error) answer other = if_answered Done answer (Event d mode)
noticed (Step.SysRead g s n) answer other = if_answered Again answer (Tried s Read)
noticed (Step.SysWrite g s bytes) answer other = if_answered Again answer (Tried s Write)
noticed (Step.Incref g s) answer other = if_answered Yes answer (TookReference g s)
noticed (Step.IncrefClose g s) answer other = if_answered Yes answer (TookReference g s)
noticed (Step.RwLock g s side) answer other = if_answered Yes answer (TookReference g s)
noticed (Step.Decref g s) answer other = GaveReference g s
noticed (Step.RwUnlock g s side) answer other = GaveReference g s
noticed (Step.SetDeadline g d mode t) answer other = SetDeadline g d mode
noticed step answer other = other

-- The notice of a step. Before the step, the world is `w`; its answer is `answer`, and the world
-- after it is `next`.
abbrev pub notice : World → Step → Answer → World → Notice
notice w step answer next = noticed step answer (seen w step answer next)

-- the notice of a step, from its outcome; a refused step did nothing
abbrev pub notice_of : World → Step → Outcome → Notice
notice_of w step (Ok (answer, next)) = notice w step answer next
notice_of w step (Err reason) = Nothing

-- The notice of the step after position n of a recording; `Nothing` after the last step.
abbrev pub notice_at : Recording → ℕ → Notice
notice_at r n =
    option_map_or (λ step. notice_of (world_at r n) step (outcome (world_at r n) step))
    (slice_get r.steps n) Nothing
