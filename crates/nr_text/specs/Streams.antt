-- Readers and writers that remember what they received or sent, and whether they failed.
use Rattle.std.specs.Prelude.{◌≡◌, ℕ, ◌-◌, ◌^◌, ◌<◌, min, Bool, true, List, ◌++◌, length, take, Option}
use Rattle.std.specs.Io.KnownBytes.{Appends, Consumes, IsAtEnd}
use Rattle.nr_text.specs.Moments.{Moment}

-- The abstract state of a source. It has the reader's remaining bytes, if they are known, and the
-- bytes that reads returned, in order. It also records whether the last read found the end, whether
-- a read failed, and when each read was made (`moments`, in order).
pub record Incoming : Type 0 where
  pub remaining : Option (List ℕ)
  pub received : List ℕ
  pub ended : Bool
  pub failed : Bool
  pub moments : List Moment

-- The abstract state of a sink. It has the writer's contents, if they are known, and the bytes that
-- were written, in order. It also records whether a write failed or wrote none of its bytes.
pub record Outgoing : Type 0 where
  pub contents : Option (List ℕ)
  pub sent : List ℕ
  pub failed : Bool

-- True if these bytes were received. If the reader's remaining bytes are known, the received bytes
-- were the first of them.
pub record Receives (from left : Incoming) (bytes : List ℕ) : Type 0 where
  pub received : left.received ≡ from.received ++ bytes
  pub consumed : Consumes from.remaining left.remaining bytes

-- True if the last read found the end. If the reader's remaining bytes are known, none are left.
abbrev pub IsOver : Incoming → Type 0
IsOver left = (left.ended ≡ true) × IsAtEnd left.remaining

-- True if these bytes were sent. If the writer's contents are known, these bytes were appended to
-- them.
pub record Sends (old new : Outgoing) (bytes : List ℕ) : Type 0 where
  pub sent : new.sent ≡ old.sent ++ bytes
  pub appended : Appends old.contents new.contents bytes

-- True if reads were made at these moments.
abbrev pub Passes : Incoming → Incoming → List Moment → Type 0
Passes old new moments = new.moments ≡ old.moments ++ moments

-- a count that stops at 2 ^ 64 - 1
abbrev pub saturating_count : ℕ → ℕ
saturating_count n = min n (2 ^ 64 - 1)

-- True if the whole text was written, and no write failed.
abbrev pub WritesAll : Outgoing → Outgoing → List ℕ → Type 0
WritesAll old new text = Sends old new text × (new.failed ≡ old.failed)

-- True if a write failed after exactly n bytes of the text were written, and the text is longer
-- than n bytes. The count is n, or 2 ^ 64 - 1 if n is greater.
pub record WritesPrefix (old new : Outgoing) (text : List ℕ) (count : ℕ) : Type 0 where
  pub n : ℕ
  pub within : n < length text
  pub count_is : count ≡ saturating_count n
  pub out : Sends old new (take n text)
  pub failed : new.failed ≡ true
