-- Goroutines that sleep although they should have been woken.
use Rattle.std.specs.Prelude.{◌≡◌, ℕ, zero, suc, ◌-◌, Bool, false, ◌&&◌, ◌==◌, ◌/◌, ◌%◌, nat_lt, if◌then◌else◌, List, [], ◌∷◌, ◌++◌, length, slice_get, Option, Some, None, option_and_then, codes, decimal}
use Rattle.std.specs.Option.{option_or}
use Rattle.nr_rev.specs.declared.cell.Cell.{Cell}
use Rattle.nr_rev.specs.declared.cell_value.CellValue.{CellValue}
use Rattle.nr_rev.specs.declared.descriptor.DescriptorRow.{DescriptorRow}
use Rattle.nr_rev.specs.declared.descriptor.WaitWord.TheVariants.{Held}
use Rattle.nr_rev.specs.declared.sides.Side.{Side}
use Rattle.nr_rev.specs.declared.sides.Side.TheVariants.{Read, Write}
use Rattle.nr_rev.specs.Cell.{cell}
use Rattle.nr_rev.specs.Descriptor.{check}
use Rattle.nr_rev.specs.Run.{Recording, world_at}
use Rattle.nr_rev.specs.Sides.{is_read}
use Rattle.nr_rev.specs.Socket.{Socket, room_of}
use Rattle.nr_rev.specs.WellFormed.{HasView, parked_of}
use Rattle.nr_rev.specs.World.{World}
use Rattle.nr_text.specs.Auxiliary.Text.{text_of_parts}
use Rattle.nr_suspects.specs.declared.account.Account.{Account}
use Rattle.nr_suspects.specs.declared.peer.Peer.{Peer}
use Rattle.nr_suspects.specs.declared.sleeper.Reason.{Reason}
use Rattle.nr_suspects.specs.declared.sleeper.Reason.TheVariants as why
use Rattle.nr_suspects.specs.declared.sleeper.Sleeper.{Sleeper}
use Rattle.nr_suspects.specs.LostWakeUps.{side_letter}
use Rattle.nr_suspects.specs.Notices.{has_passed, word_cell}

-- why a check with this code ends a wait
abbrev pub reason_of_code : ℕ → Option Reason
reason_of_code code =
    if code == 1 then Some why.Closing else (if code == 2 then Some why.Deadline
    else (if code == 3 then Some why.Error else None))

-- why a read wouldn't be answered `Again`: this many bytes can be read, or the peer has closed
abbrev pub reason_to_read : ℕ → Bool → Option Reason
reason_to_read bytes is_closed =
    if nat_lt 0 bytes then Some why.Bytes else (if is_closed then Some why.End else None)

-- why a write wouldn't be answered `Again`: the write side is shut, or this much room is left
abbrev pub reason_to_write : Bool → ℕ → Option Reason
reason_to_write is_shut room =
    if is_shut then Some why.Shut else (if nat_lt 0 room then Some why.Room else None)

-- why a goroutine that waits at this side of the socket should stop waiting
abbrev pub reason_of_socket : Side → Socket → Option Reason
reason_of_socket Read socket =
    reason_to_read (length socket.buffers.read.bytes) socket.peer_closed
reason_of_socket Write socket = reason_to_write socket.shut (room_of socket.buffers.write)

-- Why a goroutine should be woken if it waits at this side of the descriptor. A check would end the
-- wait, because the descriptor is closing, the side's deadline has passed or an event reported an
-- error; or the socket has what the side waits for.
abbrev pub reason_of_row : World → Side → DescriptorRow → Option Reason
reason_of_row w side row =
    option_or (reason_of_code (check side row.descriptor))
    (option_and_then (reason_of_socket side) (slice_get w.sockets row.descriptor.socket))

-- why a goroutine that waits at a side of descriptor d should be woken, if the descriptor was ever
-- opened
abbrev pub reason : World → ℕ → Side → Option Reason
reason w d side = option_and_then (reason_of_row w side) (slice_get w.descriptors d)

-- Goroutine g is parked at a side of descriptor d although it should have been woken; `why` is the
-- reason to wake it.
pub record SleepsOn (w : World) (g d : ℕ) (side : Side) (why : Reason) : Type 0 where
  pub parked : HasView parked_of w.goroutines g (d, side)
  pub has_reason : reason w d side ≡ Some why

-- a socket doesn't have what the side waits for
abbrev pub HasNothing : Side → Socket → Type 0
HasNothing Read socket = (socket.buffers.read.bytes ≡ []) × (socket.peer_closed ≡ false)
HasNothing Write socket = (socket.shut ≡ false) × (room_of socket.buffers.write ≡ 0)

-- ---- all sleepers

-- the entry for the goroutine in the word, if the word holds a goroutine and a reason to wake that
-- goroutine exists
abbrev pub sleeper_by : ℕ → ℕ → Side → CellValue → Option Reason → List Sleeper
sleeper_by n d side (CellValue.WaitWord (Held g)) (Some why) =
    record {
      position = n;
      goroutine = g;
      descriptor = d;
      side = side;
      reason = why;
    } ∷ []
sleeper_by n d side word reason = []

-- the sleeper at a side of descriptor d
abbrev pub sleeper_at : ℕ → World → ℕ → Side → Option Reason → List Sleeper
sleeper_at n w d side reason = sleeper_by n d side (cell w (word_cell d side)) reason

-- the sleepers at the descriptors below k; `reasons` gives the reason why a goroutine at a side
-- should be woken, if there is a reason
abbrev pub sleepers_below : ℕ → World → (ℕ → Side → Option Reason) → ℕ → List Sleeper
sleepers_below n w reasons zero = []
sleepers_below n w reasons (suc k) =
    sleepers_below n w reasons k
    ++ (sleeper_at n w k Read (reasons k Read) ++ sleeper_at n w k Write (reasons k Write))

-- All sleepers at position n of a recording, sorted by descriptor, with the read side first.
abbrev pub sleepers : Recording → ℕ → List Sleeper
sleepers r n = sleepers_below n (world_at r n) (reason (world_at r n)) r.limits.descriptors

-- ---- the reasons, computed from cells and accounts

-- the number in a cell's value; 0 if it isn't a number
abbrev pub number_or_zero : CellValue → ℕ
number_or_zero (CellValue.Number n) = n
number_or_zero _ = 0

-- the code that a check of a side gets, computed from the descriptor's summary and whether the
-- deadline has passed
abbrev pub code_of_info : Side → ℕ → Bool → ℕ
code_of_info side info passed =
    if info % 2 == 1 then 1 else (if passed then 2
    else (if is_read side && (info / 2 % 2 == 1) then 3 else 0))

-- the reason why a goroutine should stop waiting at this side of socket s, computed from the
-- socket's cells and its other end
abbrev pub reason_by_cells : World → ℕ → Side → Peer → Option Reason
reason_by_cells w s Read p = reason_to_read (number_or_zero (cell w (Cell.Input s))) p.is_closed
reason_by_cells w s Write p =
    reason_to_write (number_or_zero (cell w (Cell.Shut s)) == 1)
    (p.capacity - number_or_zero (cell w (Cell.Output s)))

-- the reason why a goroutine at a side of descriptor d should be woken, computed from cells, the
-- descriptor's account and the sockets' other ends
abbrev pub reason_of_account : World → ℕ → Side → (ℕ → Option Peer) → Account → Option Reason
reason_of_account w d side peers a =
    option_or
    (reason_of_code
    (code_of_info side (number_or_zero (cell w (Cell.Info d))) (has_passed w d side)))
    (option_and_then (reason_by_cells w a.socket side) (peers a.socket))

-- why a goroutine at a side of descriptor d should be woken, if the descriptor has an account
abbrev pub reason_kept : World → (ℕ → Option Account) → (ℕ → Option Peer) → ℕ → Side
    → Option Reason
reason_kept w kept peers d side = option_and_then (reason_of_account w d side peers) (kept d)

-- ---- their lines

-- the printed name of a reason
abbrev pub reason_text : Reason → List ℕ
reason_text why.Closing = codes "closing"
reason_text why.Deadline = codes "deadline"
reason_text why.Error = codes "error"
reason_text why.Bytes = codes "bytes"
reason_text why.End = codes "end"
reason_text why.Shut = codes "shut"
reason_text why.Room = codes "room"

-- the line `at 71 asleep gor 2 desc 0 r because bytes`
abbrev pub sleeper_line : Sleeper → List ℕ
sleeper_line s =
    codes "at " ++ (decimal s.position
    ++ (codes " asleep gor " ++ (decimal s.goroutine
    ++ (codes " desc " ++ (decimal s.descriptor ++ (side_letter s.side
    ++ (codes " because " ++ (reason_text s.reason ++ codes "\n"))))))))

-- a line for each sleeper
abbrev pub sleeper_lines : List Sleeper → List ℕ
sleeper_lines found = text_of_parts sleeper_line found
