-- The state of the line loop between two lines.
use Rattle.std.specs.Prelude.{◌≡◌, ℕ, ◌==◌, Bool, true, false, List, [], ◌∷◌, ◌++◌, take, Result}
use Rattle.std.specs.List.{concat, slice_split}
use Rattle.nr_text.specs.Moments.{Moment}
use Rattle.nr_text.specs.Streams.{Incoming, Outgoing, Passes, Receives, Sends, saturating_count}
use Rattle.nr_front.specs.FrontState.{FrontState}
use Rattle.nr_lines.specs.Engine.{has_quit, lines_of}
use Rattle.nr_lines.specs.Auxiliary.Engine.{AnswersLines, ArePrompt, Turns, is_write_failure, some_count, whole_lines, without_counts}
use Rattle.nr_lines.specs.declared.ending.End.{End}
use Rattle.nr_lines.specs.declared.ending.LineEnd.{LineEnd}

-- the last part of a text, or the empty text if there is no part
abbrev pub last_part : List (List ℕ) → List ℕ
last_part [] = []
last_part (part ∷ []) = part
last_part (part ∷ next ∷ more) = last_part (next ∷ more)

-- what follows the last line feed of a text
abbrev pub unfinished_line : List ℕ → List ℕ
unfinished_line text = last_part (slice_split (λ b. b == 10) text)

-- Some bytes came from a source, and `read` contains those that the loop has processed. The whole
-- lines of `read` are answered, none of them is `quit`, and all reads so far were prompt. The kept
-- line is what follows the last line feed of `read`, up to 257 bytes.
pub record LoopInvariant (from left : Incoming) (old new : Outgoing) (d d' : FrontState)
    (came read line : List ℕ) (whole : ℕ) : Type 0 where
  pub texts : List (List ℕ)
  pub moments : List Moment
  pub reads : Receives from left came
  pub writes : Sends old new (concat texts)
  pub passes : Passes from left moments
  pub prompt : ArePrompt from old moments (whole_lines read) texts
  pub turns : Turns d (whole_lines read) texts d'
  pub no_quit : has_quit (whole_lines read) ≡ false
  pub kept : line ≡ take 257 (unfinished_line read)
  pub count : whole ≡ saturating_count (some_count texts)

-- The result of the loop. If each reply is written immediately, the counts are reported, and no
-- line is run after a write fails.
pub record AnswersBy (at_once : Bool) (from left : Incoming) (old new : Outgoing)
    (d d' : FrontState) (result : Result End LineEnd) : Type 0 where
  pub ending : Result End LineEnd
  pub last : FrontState
  pub behind : List (List ℕ)
  pub texts : List (List ℕ)
  pub answers : AnswersLines from left old new d last ending
  pub reported : without_counts result ≡ without_counts ending
  pub rest : Turns last behind texts d'
  pub came : (front : List (List ℕ)) × (more : List (List ℕ))
      × (lines_of answers.ended answers.read ≡ front ++ (behind ++ more))
  pub nothing_behind : is_write_failure ending ≡ false → behind ≡ []
  pub exact : at_once ≡ true → AnswersLines from left old new d d' result
