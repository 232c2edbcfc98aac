-- The replies to the callers of a shared session.
use Rattle.std.specs.Prelude.{◌≡◌, ◌⊎◌, ℕ, ◌<◌, false, true, not, is_err, List, [], ◌∷◌, ◌++◌, length, take, drop, Option, None, Result, Ok, if◌then◌else◌}
use Rattle.std.specs.List.{All, concat}
use Rattle.nr_rev.specs.Run.{Recording}
use Rattle.nr_journal.specs.Rule.{Covers, IsOthers, StartsWith}
use Rattle.nr_command.specs.Command.{meaning_of}
use Rattle.nr_command.specs.Word.{word_of}
use Rattle.nr_command.specs.declared.command.Command.{Command}
use Rattle.nr_command.specs.declared.command.Line.{Line}
use Rattle.nr_command.specs.declared.command.Line.TheVariants.{Run}
use Rattle.nr_command.specs.declared.command.LineFault.{LineFault}
use Rattle.nr_front.specs.FrontState.{IsAt}
use Rattle.nr_text.specs.Moments.{Moment}
use Rattle.nr_text.specs.Streams.{IsOver}
use Rattle.nr_lines.specs.Engine.{has_quit, lines_of}
use Rattle.nr_lines.specs.Turn.{is_quit}
use Rattle.nr_serving.specs.Conversations.{Conversation}
use Rattle.nr_programs.specs.Among.{AllMayMeet, Met, answer_among, next_met, replies_among, texts_among}
use Rattle.nr_programs.specs.Transcript.{JournalSize, SessionState, Supply, enough, no_memory_to_search}

-- the list of lines starts with these lines
abbrev pub StartsList : List (List ℕ) → List (List ℕ) → Type 0
StartsList lines front = (more : List (List ℕ)) × (lines ≡ front ++ more)

-- the word of the line's own command, if the line places one
abbrev pub own_word : ℕ → Option Command → Result Line LineFault → Supply → List ℕ
own_word tag None (Ok (Run command)) enough = word_of tag command ∷ []
own_word tag None (Ok (Run command)) no_memory_to_search = word_of tag command ∷ []
own_word tag owed asked supply = []

-- The words that a front sees when it runs a line: those that other fronts placed before the line,
-- and then the line's own word, if it has one.
abbrev pub words_with : ℕ → Option Command → Result Line LineFault → Met → List ℕ
words_with tag owed asked m = m.others ++ own_word tag owed asked m.supply

-- the words that a front with this tag sees while it answers these lines, up to the first `quit`
abbrev pub words_seen : ℕ → Recording → SessionState → List (List ℕ) → List Met → List ℕ
words_seen tag r s [] met = []
words_seen tag r s (line ∷ lines) met =
    let asked = meaning_of line in
    let a = answer_among r s.owed asked (next_met met) s in
    words_with tag s.owed asked (next_met met)
    ++ (if is_quit asked then [] else words_seen tag r a.1 lines (drop 1 met))

-- none of the words that other fronts placed before a line has this tag
abbrev pub MeetsOthers : ℕ → Met → Type 0
MeetsOthers tag m = All (IsOthers tag) m.others

-- At this read from the caller, the replies to all whole lines received before it had been sent. No
-- earlier read had reached the end of the caller's input.
abbrev pub HeardOut : Recording → SessionState → List Met → Moment → Type 0
HeardOut r s met m = (m.sent ≡ replies_among r s false m.received met) × (m.ended ≡ false)

-- All texts before the last were sent whole, and only the first n bytes of the last text were sent.
pub record EndsWithin (texts : List (List ℕ)) (sent : List ℕ) : Type 0 where
  pub whole : List (List ℕ)
  pub last : List ℕ
  pub n : ℕ
  pub split : texts ≡ whole ++ last ∷ []
  pub within : n < length last
  pub sent_is : sent ≡ concat whole ++ take n last

-- One caller of a front was answered. What was sent is a prefix of the replies that a front in
-- state `s` gives to what was received. If no write failed, all these replies were sent. If a read
-- failed, an unfinished last line isn't a command. Before each read, all whole lines had been
-- answered. If no read and no write failed, a read reached the end of the caller's input, or a line
-- is `quit`. `ran` has the lines that were run: all lines, or only the first lines, if one is
-- `quit` or its reply couldn't be written. That line is then the last one of `ran`. Only the texts
-- of these lines were sent. If a write failed, the last line of `ran` is the line whose text was
-- cut. The conditions of all lines (`met`) can arise with a journal of this size.
pub record IsAnswered (r : Recording) (journal : JournalSize) (tag : ℕ) (c : Conversation)
    (s : SessionState) : Type 0 where
  pub met : List Met
  pub may : AllMayMeet r journal s (lines_of (not c.input.failed) c.input.received) met
  pub begins :
      StartsWith (replies_among r s (not c.input.failed) c.input.received met) c.output.sent
  pub whole : c.output.failed ≡ false
      → c.output.sent ≡ replies_among r s (not c.input.failed) c.input.received met
  pub prompt : All (HeardOut r s met) c.input.moments
  pub complete : is_err c.ending ≡ false
      → IsOver c.input ⊎ (has_quit (lines_of false c.input.received) ≡ true)
  pub ran : List (List ℕ)
  pub first : StartsList (lines_of (not c.input.failed) c.input.received) ran
  pub nothing_else : StartsWith (concat (texts_among r s ran met)) c.output.sent
  pub stops : c.output.failed ≡ true → EndsWithin (texts_among r s ran met) c.output.sent
  pub others : All (MeetsOthers tag) met

-- The front has run a prefix of the history: its debugger has run these words, except the last word
-- if its reply is owed.
pub record HasRun (r : Recording) (history seen : List ℕ) (s : SessionState) : Type 0 where
  pub prefix : StartsWith history seen
  pub placed : s.placed ≡ length seen
  pub at : IsAt r seen s.owed s.debugger

-- The callers of a front were answered, one after the other, after the front had seen these words.
-- With each caller, the front runs a longer prefix of the history. The added words are those that
-- the front saw while it answered the caller's lines: the words of other fronts before each line,
-- and, once each, the words of the commands that the lines placed. After the last caller, the front
-- has seen every word of the history that has the front's tag.
abbrev pub AreAnswered : Recording → JournalSize → ℕ → List ℕ → SessionState → List ℕ
    → List Conversation → Type 0
AreAnswered r journal tag history s seen [] = Covers history tag seen
AreAnswered r journal tag history s seen (c ∷ callers) =
    (one : IsAnswered r journal tag c s) × (next : SessionState)
    × HasRun r history (seen ++ words_seen tag r s one.ran one.met) next
    × AreAnswered r journal tag history next (seen ++ words_seen tag r s one.ran one.met) callers
