-- The replies to a front's lines when other fronts also place words.
use Rattle.std.specs.Prelude.{◌≡◌, ℕ, ◌+◌, Bool, List, [], ◌∷◌, length, drop, Option, Some, None, Result, Ok, ⊤, if◌then◌else◌}
use Rattle.std.specs.List.{concat}
use Rattle.nr_rev.specs.Run.{Recording}
use Rattle.nr_command.specs.Command.{meaning_of}
use Rattle.nr_command.specs.Debugger.{after_words}
use Rattle.nr_command.specs.declared.command.Command.{Command}
use Rattle.nr_command.specs.declared.command.Line.{Line}
use Rattle.nr_command.specs.declared.command.Line.TheVariants.{Run, Look, Resume}
use Rattle.nr_command.specs.declared.command.LineFault.{LineFault}
use Rattle.nr_lines.specs.Engine.{lines_of}
use Rattle.nr_lines.specs.Turn.{is_quit, text_or_none}
use Rattle.nr_programs.specs.Transcript.{Answered, CommandMayHave, JournalSize, LookMayHave, ResumeMayHave, SessionState, Supply, UnlessQuit, enough, line_answer}

-- the conditions under which a line runs: the words that other fronts placed before it, and its
-- `Supply`
pub record Met : Type 0 where
  pub others : List ℕ
  pub supply : Supply

-- no words of other fronts before the line, and sufficient memory and journal room
abbrev pub calm : Met
calm = record { others = []; supply = enough }

-- the conditions of the next line, or `calm` if the list is empty
abbrev pub next_met : List Met → Met
next_met [] = calm
next_met (m ∷ met) = m

-- the front after it has seen these words of other fronts
abbrev pub behind_others : Recording → List ℕ → SessionState → SessionState
behind_others r words s = record s {
  debugger = after_words r s.debugger words;
  placed = s.placed + length words;
}

-- the answer to a line, given the command whose reply is owed; the front runs the words of other
-- fronts before a command or a query
abbrev pub answer_among : Recording → Option Command → Result Line LineFault → Met → SessionState
    → Answered
answer_among r None (Ok (Run command)) m s =
    line_answer r None (Ok (Run command)) m.supply (behind_others r m.others s)
answer_among r None (Ok (Look query)) m s =
    line_answer r None (Ok (Look query)) m.supply (behind_others r m.others s)
answer_among r owed asked m s = line_answer r owed asked m.supply s

-- True if these conditions can arise for a line, given the command whose reply is owed and the size
-- of the journal. If no reply is owed, a command or a query can come after words of other fronts,
-- and it can run out of memory. A command can also find the journal full. If a reply is owed,
-- `resume` can run out of memory. In all other cases, no words of other fronts come before the
-- line, memory doesn't run out, and the journal has room.
abbrev pub MayMeet : Recording → JournalSize → Option Command → Result Line LineFault → Met
    → SessionState → Type 0
MayMeet r journal None (Ok (Run command)) m s =
    CommandMayHave r journal command m.supply (behind_others r m.others s)
MayMeet r journal None (Ok (Look query)) m s = LookMayHave m.supply
MayMeet r journal (Some command) (Ok Resume) m s =
    (m.others ≡ []) × ResumeMayHave r command m.supply s
MayMeet r journal owed asked m s = m ≡ calm

-- the replies to these lines, one text per line, up to the first `quit`
abbrev pub texts_among : Recording → SessionState → List (List ℕ) → List Met → List (List ℕ)
texts_among r s [] met = []
texts_among r s (line ∷ lines) met =
    let asked = meaning_of line in
    let a = answer_among r s.owed asked (next_met met) s in
    text_or_none a.0 ∷ (if is_quit asked then [] else texts_among r a.1 lines (drop 1 met))

-- true if the conditions of each line, up to the first `quit`, can arise
abbrev pub AllMayMeet : Recording → JournalSize → SessionState → List (List ℕ) → List Met → Type 0
AllMayMeet r journal s [] met = ⊤
AllMayMeet r journal s (line ∷ lines) met =
    let asked = meaning_of line in
    let a = answer_among r s.owed asked (next_met met) s in
    MayMeet r journal s.owed asked (next_met met) s
    × UnlessQuit (is_quit asked) (AllMayMeet r journal a.1 lines (drop 1 met))

-- The replies to the lines of a text, given the conditions under which each line runs. The bytes
-- after the last line feed are a line only if the text is complete (`ended`).
abbrev pub replies_among : Recording → SessionState → Bool → List ℕ → List Met → List ℕ
replies_among r s ended commands met = concat (texts_among r s (lines_of ended commands) met)
