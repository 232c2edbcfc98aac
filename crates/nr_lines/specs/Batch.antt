-- The lines that end in one read, and their texts.
use Rattle.std.specs.Prelude.{◌≡◌, ℕ, ◌+◌, ◌<◌, Bool, true, false, List, [], ◌∷◌, ◌++◌, length, take, Some, Result, Ok, Err}
use Rattle.std.specs.List.{concat}
use Rattle.nr_text.specs.Streams.{Outgoing, Sends, WritesPrefix, saturating_count}
use Rattle.nr_text.specs.declared.sink.Part.{Part}
use Rattle.nr_command.specs.Command.{meaning_of}
use Rattle.nr_command.specs.Reply.{text_of}
use Rattle.nr_command.specs.declared.command.Line.{Line}
use Rattle.nr_command.specs.declared.command.LineFault.{LineFault}
use Rattle.nr_command.specs.declared.reply.Reply.{Reply}
use Rattle.nr_front.specs.FrontState.{FrontState}
use Rattle.nr_lines.specs.Engine.{has_quit}
use Rattle.nr_lines.specs.Outbox.{Delivers, held_bytes}
use Rattle.nr_lines.specs.Page.{CutBehind, GoesBehind}
use Rattle.nr_lines.specs.Turn.{is_quit}
use Rattle.nr_lines.specs.Auxiliary.Engine.{Turns, some_count, whole_lines}
use Rattle.nr_lines.specs.Auxiliary.Turn.{MayReply, Turn, count_with}
use Rattle.nr_lines.specs.LoopInvariant.{unfinished_line}
use Rattle.nr_lines.specs.declared.ending.LineEnd.{LineEnd}
use Rattle.nr_lines.specs.declared.ending.LineEnd.TheVariants.{Write}
use Rattle.nr_lines.specs.declared.outbox.Outbox.{Outbox}

-- True if a front may give a certain reply to this line and be in this state afterwards. Either the
-- outbox printed that reply, or a write failed.
abbrev pub PrintsReply : Result Line LineFault → FrontState → FrontState → Outgoing → Outbox
    → Outgoing → Outbox → Result (Unit {0}) Part → Type 0
PrintsReply asked d d' old before new after printed =
    (reply : Reply) × MayReply asked d (Some reply) d'
    × Delivers old before new after (text_of reply) printed

-- A line was run, and its text was printed and counted.
pub record Turned (d : FrontState) (line : List ℕ) (d' : FrontState) (old : Outgoing)
    (before : Outbox) (new : Outgoing) (after : Outbox) (whole whole' : ℕ) : Type 0 where
  pub text : List ℕ
  pub turn : Turn d line text d'
  pub goes : GoesBehind old (held_bytes before) text new (held_bytes after)
  pub count : whole' ≡ count_with whole text

-- A line was run, and a write failed while its text was printed.
pub record StopsPrinting (d : FrontState) (line : List ℕ) (d' : FrontState) (old : Outgoing)
    (before : Outbox) (new : Outgoing) (whole : ℕ) (e : LineEnd) : Type 0 where
  pub text : List ℕ
  pub part : ℕ
  pub turn : Turn d line text d'
  pub cut : CutBehind old (held_bytes before) text new part
  pub ending : e ≡ Write whole part

-- A write of the held bytes failed.
pub record FailsToPutOut (old new : Outgoing) (held : List ℕ) (whole : ℕ) (e : LineEnd) :
    Type 0 where
  pub part : ℕ
  pub cut : WritesPrefix old new held part
  pub ending : e ≡ Write whole part

-- These lines were run, one after the other. The first bytes of their texts were written, and the
-- rest is held. `whole'` counts the nonempty texts, starting from `whole`.
pub record Batch (d d' : FrontState) (old new : Outgoing) (held : List ℕ)
    (lines : List (List ℕ)) (whole whole' : ℕ) : Type 0 where
  pub texts : List (List ℕ)
  pub out : List ℕ
  pub turns : Turns d lines texts d'
  pub split : concat texts ≡ out ++ held
  pub sends : Sends old new out
  pub count : (n : ℕ) → whole ≡ saturating_count n
      → whole' ≡ saturating_count (n + some_count texts)

-- A write failed within the text of a line, after the texts of earlier lines were written. If
-- replies are written together, later lines may have been run too. If each reply is written
-- immediately, no later line was run, and the error contains the number of whole replies and the
-- number of bytes written of the reply that was cut.
pub record Cut (at_once : Bool) (d d' : FrontState) (old new : Outgoing) (lines : List (List ℕ))
    (whole : ℕ) (e : LineEnd) : Type 0 where
  pub front : List (List ℕ)
  pub line : List ℕ
  pub behind : List (List ℕ)
  pub more : List (List ℕ)
  pub texts : List (List ℕ)
  pub text : List ℕ
  pub texts_behind : List (List ℕ)
  pub mid : FrontState
  pub after : FrontState
  pub n : ℕ
  pub split : lines ≡ front ++ line ∷ (behind ++ more)
  pub turns : Turns d front texts mid
  pub turn : Turn mid line text after
  pub rest : Turns after behind texts_behind d'
  pub no_quit : has_quit front ≡ false
  pub within : n < length text
  pub sends : Sends old new (concat texts ++ take n text)
  pub is_write : (counted : ℕ) × (part : ℕ) × (e ≡ Write counted part)
  pub exact : at_once ≡ true → (d' ≡ after) × ((k : ℕ) → whole ≡ saturating_count k
      → e ≡ Write (saturating_count (k + some_count texts)) (saturating_count n))

-- True if the lines up to the first `quit` were run, and the result says whether there was a
-- `quit`; or if a write failed.
abbrev pub RunsLines : Bool → FrontState → FrontState → Outgoing → Outgoing → List ℕ
    → List (List ℕ) → ℕ → ℕ → Result Bool LineEnd → Type 0
RunsLines at_once d d' old new held lines whole whole' (Ok false) =
    Batch d d' old new held lines whole whole' × (has_quit lines ≡ false)
RunsLines at_once d d' old new held lines whole whole' (Ok true) =
    (front : List (List ℕ)) × (line : List ℕ) × (back : List (List ℕ))
    × (lines ≡ front ++ line ∷ back) × Batch d d' old new held (front ++ line ∷ []) whole whole'
    × (has_quit front ≡ false) × (is_quit (meaning_of line) ≡ true)
RunsLines at_once d d' old new held lines whole whole' (Err e) =
    Cut at_once d d' old new lines whole e

-- The bytes of earlier reads are `before`, and those of this read are `bytes`. The lines that end
-- in this read were run. The kept line is what follows the last line feed, up to 257 bytes of it.
pub record AnswersBytes (at_once : Bool) (before bytes : List ℕ) (d d' : FrontState)
    (old new : Outgoing) (held line : List ℕ) (whole whole' : ℕ) (result : Result Bool LineEnd) :
    Type 0 where
  pub lines : List (List ℕ)
  pub lines_are : whole_lines (before ++ bytes) ≡ whole_lines before ++ lines
  pub runs : RunsLines at_once d d' old new held lines whole whole' result
  pub kept : result ≡ Ok false → line ≡ take 257 (unfinished_line (before ++ bytes))
