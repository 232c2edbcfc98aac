-- Helper definitions for `Streams`. The laws in THEOREM.md don't use them.
use Rattle.std.specs.Prelude.{◌≡◌, ℕ, ◌<◌, ◌≤◌, true, false, List, [], length, take, Option, Result, Ok, Err}
use Rattle.std.specs.List.{All}
use Rattle.nr_text.specs.Moments.{Moment}
use Rattle.nr_text.specs.declared.calls.CallOutcome.{CallOutcome}
use Rattle.nr_text.specs.declared.calls.CallOutcome.TheVariants.{Moved, Interrupted, Failed}
use Rattle.nr_text.specs.declared.sink.Part.{Part}
use Rattle.nr_text.specs.Streams.{Incoming, IsOver, Outgoing, Passes, Receives, Sends, WritesAll, WritesPrefix}

-- a source before its first read, given the reader's remaining bytes, if they are known
abbrev pub unread : Option (List ℕ) → Incoming
unread known =
    record { remaining = known; received = []; ended = false; failed = false; moments = [] }

-- a sink before its first write, given the writer's contents, if they are known
abbrev pub unwritten : Option (List ℕ) → Outgoing
unwritten known = record { contents = known; sent = []; failed = false }

-- True if one call of a reader, with this buffer and outcome, turns the old state into the new one.
abbrev pub Reads : Incoming → Incoming → List ℕ → CallOutcome → Type 0
Reads old new buffer (Moved n) =
    (n ≤ length buffer) × Receives old new (take n buffer) × (new.failed ≡ old.failed)
    × (n ≡ 0 → 0 < length buffer → IsOver new) × (0 < n → new.ended ≡ false)
Reads old new buffer Interrupted =
    Receives old new [] × (new.failed ≡ old.failed) × (new.ended ≡ false)
Reads old new buffer Failed = Receives old new [] × (new.failed ≡ true)

-- true if one call of a writer, with this buffer and outcome, turns the old state into the new one
abbrev pub Takes : Outgoing → Outgoing → List ℕ → CallOutcome → Type 0
Takes old new buffer (Moved n) =
    (n ≤ length buffer) × Sends old new (take n buffer) × (0 < n → new.failed ≡ old.failed)
    × (n ≡ 0 → 0 < length buffer → new.failed ≡ true)
Takes old new buffer Interrupted = Sends old new [] × (new.failed ≡ old.failed)
Takes old new buffer Failed = Sends old new [] × (new.failed ≡ true)

-- True if a read received the first bytes of the buffer, or failed. If a read succeeded without any
-- bytes, the input was at its end or the buffer had no room.
abbrev pub ReadsSome : {E : Type 0} → Incoming → Incoming → List ℕ → Result ℕ E → Type 0
ReadsSome old new buffer (Ok n) = Reads old new buffer (Moved n)
ReadsSome old new buffer (Err _) = Reads old new buffer Failed

-- True if a write sent the first of the bytes, or failed. If there were bytes to send and the write
-- sent none, the write counts as failed.
abbrev pub TakesSome : {E : Type 0} → Outgoing → Outgoing → List ℕ → Result ℕ E → Type 0
TakesSome old new bytes (Ok n) = Takes old new bytes (Moved n)
TakesSome old new bytes (Err _) = Takes old new bytes Failed

-- True if the moment has the bytes that the source received and the sink sent up to now. It records
-- an end only if the source is at its end.
abbrev pub IsNow : Incoming → Outgoing → Moment → Type 0
IsNow input output m =
    (m.received ≡ input.received) × (m.sent ≡ output.sent) × (input.ended ≡ false → m.ended ≡ false)

-- True if reads were made at these moments, and at each moment the source was still in its old
-- state and the sink in the given state.
abbrev pub ReadsAt : Incoming → Incoming → Outgoing → List Moment → Type 0
ReadsAt old new output moments = Passes old new moments × All (IsNow old output) moments

-- True if at least one read was made, and at each read the source was still in its old state and
-- the sink in the given state.
abbrev pub ReadsNow : Incoming → Incoming → Outgoing → Type 0
ReadsNow old new output =
    (moments : List Moment) × ReadsAt old new output moments × (0 < length moments)

-- The abstract state of a logged writer: the bytes that its writes sent, and the number of writes.
pub record WriterLog : Type 0 where
  pub taken : Outgoing
  pub writes : ℕ

-- True if the whole text was written, or a write failed and the result reports how much was
-- written.
abbrev pub Prints : Outgoing → Outgoing → List ℕ → Result (Unit {0}) Part → Type 0
Prints old new text (Ok _) = WritesAll old new text
Prints old new text (Err part) = WritesPrefix old new text part.0
