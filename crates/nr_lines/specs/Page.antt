-- The bytes of replies that are held, and those that were written.
use Rattle.std.specs.Prelude.{◌≡◌, ℕ, ◌<◌, true, List, [], ◌++◌, length, take, Option, Some, None, Result, Ok, Err}
use Rattle.nr_text.specs.Streams.{Outgoing, Sends, saturating_count}
use Rattle.nr_text.specs.declared.sink.Part.{Part}

-- the bytes, or the empty text if they aren't known
abbrev pub known_bytes : Option (List ℕ) → List ℕ
known_bytes None = []
known_bytes (Some bytes) = bytes

-- A text was added to the held bytes. Of all these bytes, the first ones have been written, and the
-- rest is held.
pub record GoesBehind (old : Outgoing) (held text : List ℕ) (new : Outgoing) (still : List ℕ) :
    Type 0 where
  pub out : List ℕ
  pub split : held ++ text ≡ out ++ still
  pub sends : Sends old new out
  pub calm : new.failed ≡ old.failed

-- A write failed while a text was added to the held bytes. Of all these bytes, exactly the first n
-- were written. If no bytes were held, the count is n.
pub record CutBehind (old : Outgoing) (held text : List ℕ) (new : Outgoing) (count : ℕ) :
    Type 0 where
  pub n : ℕ
  pub within : n < length (held ++ text)
  pub sends : Sends old new (take n (held ++ text))
  pub failed : new.failed ≡ true
  pub count_is : held ≡ [] → count ≡ saturating_count n

-- True if a text was printed after the held bytes, or a write failed while it was printed.
abbrev pub PrintsBehind : Outgoing → List ℕ → Outgoing → List ℕ → List ℕ
    → Result (Unit {0}) Part → Type 0
PrintsBehind old held new still text (Ok _) = GoesBehind old held text new still
PrintsBehind old held new still text (Err part) = CutBehind old held text new part.0
