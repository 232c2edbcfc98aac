-- Helper definitions for `Engine`. The laws in THEOREM.md don't use them.
use Rattle.std.specs.Prelude.{◌≡◌, ℕ, ◌<◌, ◌≤◌, nat_lt, Bool, true, false, List, [], ◌∷◌, ◌++◌, length, take, filter, Result, Ok, Err}
use Rattle.std.specs.List.{All, concat}
use Rattle.nr_text.specs.Moments.{Moment}
use Rattle.nr_text.specs.Streams.{Incoming, IsOver, Outgoing, Passes, Receives, Sends, saturating_count}
use Rattle.nr_command.specs.Command.{meaning_of}
use Rattle.nr_journal.specs.Rule.{StartsWith}
use Rattle.nr_front.specs.FrontState.{FrontState}
use Rattle.nr_lines.specs.Turn.{is_quit}
use Rattle.nr_lines.specs.Auxiliary.Turn.{Turn}
use Rattle.nr_lines.specs.declared.ending.End.{End}
use Rattle.nr_lines.specs.declared.ending.End.TheVariants.{Closed, Quit}
use Rattle.nr_lines.specs.declared.ending.LineEnd.{LineEnd}
use Rattle.nr_lines.specs.declared.ending.LineEnd.TheVariants.{Read, Write}
use Rattle.nr_lines.specs.declared.ending.StreamFailure.{StreamFailure}
use Rattle.nr_lines.specs.declared.ending.StreamFailure.TheVariants as failures
use Rattle.nr_lines.specs.Engine.{has_quit, lines_of}

-- the lines of a text that end with a line feed
abbrev pub whole_lines : List ℕ → List (List ℕ)
whole_lines text = lines_of false text

-- True if a front answers these lines with these texts, one line after the other.
abbrev pub Turns : FrontState → List (List ℕ) → List (List ℕ) → FrontState → Type 0
Turns d [] [] d' = d' ≡ d
Turns d (line ∷ lines) (text ∷ texts) d' =
    (mid : FrontState) × Turn d line text mid × Turns mid lines texts d'
Turns d [] (text ∷ texts) d' = ⊥
Turns d (line ∷ lines) [] d' = ⊥

-- The front only appended words to those that it had read. Its count of failed attempts to read a
-- word hasn't decreased.
pub record Grows (d d' : FrontState) : Type 0 where
  pub words : StartsWith d'.pass_state.seen d.pass_state.seen
  pub looks : d.pass_state.looks ≤ d'.pass_state.looks

-- The number of nonempty texts.
abbrev pub some_count : List (List ℕ) → ℕ
some_count texts = length (filter (λ text. nat_lt 0 (length text)) texts)

-- When this read was made, each whole line received so far had been answered with one text, and
-- nothing else had been sent. The lines and the texts up to this read are prefixes of the lists of
-- all lines and all texts. No earlier read had found the end of the input.
pub record IsPrompt (from : Incoming) (old : Outgoing) (lines texts : List (List ℕ)) (m : Moment) :
    Type 0 where
  pub read : List ℕ
  pub answers : List (List ℕ)
  pub lines_behind : List (List ℕ)
  pub texts_behind : List (List ℕ)
  pub received : m.received ≡ from.received ++ read
  pub sent : m.sent ≡ old.sent ++ concat answers
  pub one_each : length answers ≡ length (whole_lines read)
  pub of_lines : lines ≡ whole_lines read ++ lines_behind
  pub of_texts : texts ≡ answers ++ texts_behind
  pub unended : from.ended ≡ false → m.ended ≡ false

-- True if each of these reads was prompt, given all lines and their texts.
abbrev pub ArePrompt : Incoming → Outgoing → List Moment → List (List ℕ) → List (List ℕ) → Type 0
ArePrompt from old moments lines texts = All (IsPrompt from old lines texts) moments

-- All these lines were answered and none of them is `quit`. `out` is the concatenation of their
-- texts. The front was in state d before the first line and in state d' after the last one. The
-- reads were prompt.
pub record Answered (Prompt : List (List ℕ) → List (List ℕ) → Type 0) (d : FrontState)
    (lines : List (List ℕ)) (out : List ℕ) (d' : FrontState) : Type 0 where
  pub texts : List (List ℕ)
  pub prompt : Prompt lines texts
  pub turns : Turns d lines texts d'
  pub no_quit : has_quit lines ≡ false
  pub written : out ≡ concat texts

-- One of the lines is `quit`. The lines up to and including the first `quit` were answered, and
-- `out` is the concatenation of their texts.
pub record Quitted (Prompt : List (List ℕ) → List (List ℕ) → Type 0) (d : FrontState)
    (lines : List (List ℕ)) (out : List ℕ) (d' : FrontState) : Type 0 where
  pub front : List (List ℕ)
  pub line : List ℕ
  pub back : List (List ℕ)
  pub texts : List (List ℕ)
  pub prompt : Prompt (front ++ line ∷ []) texts
  pub split : lines ≡ front ++ line ∷ back
  pub no_quit : has_quit front ≡ false
  pub quit : is_quit (meaning_of line) ≡ true
  pub turns : Turns d (front ++ line ∷ []) texts d'
  pub written : out ≡ concat texts

-- The first lines were answered in full, with `whole` nonempty texts. The next line was run, and
-- only the first n bytes of its text were written.
pub record WrittenInPart (Prompt : List (List ℕ) → List (List ℕ) → Type 0) (d : FrontState)
    (lines : List (List ℕ)) (whole part : ℕ) (out : List ℕ) (d' : FrontState) : Type 0 where
  pub front : List (List ℕ)
  pub line : List ℕ
  pub back : List (List ℕ)
  pub texts : List (List ℕ)
  pub prompt : Prompt front texts
  pub text : List ℕ
  pub mid : FrontState
  pub n : ℕ
  pub split : lines ≡ front ++ line ∷ back
  pub no_quit : has_quit front ≡ false
  pub turns : Turns d front texts mid
  pub turn : Turn mid line text d'
  pub count : whole ≡ saturating_count (some_count texts)
  pub part_is : part ≡ saturating_count n
  pub within : n < length text
  pub written : out ≡ concat texts ++ take n text

-- For each result of the loop, what was written for the lines that were read. `ended` says whether
-- the source was at its end.
abbrev pub Ends : (List (List ℕ) → List (List ℕ) → Type 0) → Result End LineEnd → Bool → FrontState
    → List (List ℕ) → List ℕ → FrontState → Type 0
Ends Prompt (Ok Closed) ended d lines out d' = (ended ≡ true) × Answered Prompt d lines out d'
Ends Prompt (Ok Quit) ended d lines out d' = Quitted Prompt d lines out d'
Ends Prompt (Err Read) ended d lines out d' = (ended ≡ false) × Answered Prompt d lines out d'
Ends Prompt (Err (Write whole part)) ended d lines out d' =
    WrittenInPart Prompt d lines whole part out d'

-- Some bytes were received from a source, which changed from `from` to `left`, and other bytes were
-- sent to a sink, which changed from `old` to `new`. The bytes sent are exactly the answers to the
-- lines received, given by a front that changed from d to d'. Before each read, all whole lines had
-- been answered.
pub record AnswersLines (from left : Incoming) (old new : Outgoing) (d d' : FrontState)
    (result : Result End LineEnd) : Type 0 where
  pub read : List ℕ
  pub out : List ℕ
  pub ended : Bool
  pub moments : List Moment
  pub reads : Receives from left read
  pub writes : Sends old new out
  pub passes : Passes from left moments
  pub at_end : ended ≡ true → IsOver left
  pub ends : Ends (ArePrompt from old moments) result ended d (lines_of ended read) out d'

-- true if the result says that a read failed
abbrev pub is_read_failure : Result End LineEnd → Bool
is_read_failure (Err Read) = true
is_read_failure _ = false

-- true if the result says that a write failed
abbrev pub is_write_failure : Result End LineEnd → Bool
is_write_failure (Err (Write whole part)) = true
is_write_failure _ = false

-- the result without the counts
abbrev pub without_counts : Result End LineEnd → Result End StreamFailure
without_counts (Ok ending) = Ok ending
without_counts (Err Read) = Err failures.Read
without_counts (Err (Write whole part)) = Err failures.Write

-- Like `AnswersLines`, but without counts in the result. `last` is the state of the front after the
-- answered lines. If a write failed within the text of a line, the front may have run later lines
-- too. d' is its state at the end.
pub record AnswersTogether (from left : Incoming) (old new : Outgoing) (d d' : FrontState)
    (result : Result End StreamFailure) : Type 0 where
  pub ending : Result End LineEnd
  pub last : FrontState
  pub behind : List (List ℕ)
  pub texts : List (List ℕ)
  pub answers : AnswersLines from left old new d last ending
  pub reported : result ≡ without_counts ending
  pub rest : Turns last behind texts d'
  pub came : (front : List (List ℕ)) × (more : List (List ℕ))
      × (lines_of answers.ended answers.read ≡ front ++ (behind ++ more))
  pub nothing_behind : is_write_failure ending ≡ false → behind ≡ []
  pub reader : left.failed ≡ is_read_failure ending
  pub writer : new.failed ≡ is_write_failure ending
