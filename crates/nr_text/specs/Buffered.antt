-- A writer that joins the pieces of a text before it writes them.
use Rattle.std.specs.Prelude.{◌≡◌, ℕ, ◌+◌, ◌<◌, true, List, [], ◌++◌, length, take, Result, Ok, Err}
use Rattle.nr_text.specs.Streams.{Outgoing, Sends, saturating_count}
use Rattle.nr_text.specs.declared.buffered.WriteFailed.{WriteFailed}

-- The abstract state of a buffered writer: the bytes that its inner writer wrote, the held bytes,
-- and how many bytes of the text are written.
pub record Buffering : Type 0 where
  pub taken : Outgoing
  pub held : List ℕ
  pub out : ℕ

-- True if `sent` is what has been sent of a text that began when the writer was in state `start`:
-- its first bytes are written, and the rest are held. No write failed.
pub record HasSent (start : Outgoing) (sent : List ℕ) (b : Buffering) : Type 0 where
  pub out : List ℕ
  pub split : sent ≡ out ++ b.held
  pub written : Sends start b.taken out
  pub count : b.out ≡ saturating_count (length out)
  pub calm : b.taken.failed ≡ start.failed

-- True if a write failed after some of these bytes, but not all of them, were written. Nothing is
-- held.
pub record IsCut (start : Outgoing) (sent : List ℕ) (b : Buffering) : Type 0 where
  pub out : List ℕ
  pub left : List ℕ
  pub split : sent ≡ out ++ left
  pub short : 0 < length left
  pub written : Sends start b.taken out
  pub count : b.out ≡ saturating_count (length out)
  pub failed : b.taken.failed ≡ true
  pub dropped : b.held ≡ []

-- true if these bytes of the text were sent, or a write failed
abbrev pub SentOrCut : Outgoing → List ℕ → Buffering → Result (Unit {0}) WriteFailed → Type 0
SentOrCut start sent b (Ok _) = HasSent start sent b
SentOrCut start sent b (Err _) = IsCut start sent b

-- True if the piece was sent after the earlier pieces of the text, or a write failed.
pub record Writes (old new : Buffering) (piece : List ℕ) (result : Result (Unit {0}) WriteFailed) :
    Type 0 where
  pub behind : (start : Outgoing) (sent : List ℕ) → HasSent start sent old
      → SentOrCut start (sent ++ piece) new result

-- True if the first n of the bytes were written and counted.
pub record IsOut (bytes : List ℕ) (n : ℕ) (old new : Outgoing) (before after : ℕ) : Type 0 where
  pub written : Sends old new (take n bytes)
  pub count : after ≡ saturating_count (before + n)

-- True if all of the bytes were written and counted, and no write failed.
abbrev pub PutsOut : List ℕ → Outgoing → Outgoing → ℕ → ℕ → Type 0
PutsOut bytes old new before after =
    IsOut bytes (length bytes) old new before after × (new.failed ≡ old.failed)

-- True if a write failed after exactly n bytes were written and counted, and n is less than the
-- number of bytes.
abbrev pub PutsOutSome : List ℕ → Outgoing → Outgoing → ℕ → ℕ → Type 0
PutsOutSome bytes old new before after =
    (n : ℕ) × (n < length bytes) × IsOut bytes n old new before after × (new.failed ≡ true)
