-- If other fronts place no words before the lines of a front, the replies depend only on the
-- `Supply` of each line.
use Rattle.std.proofs.Common.{Option, None, Some, ◌≡◌, ℕ, ◌+◌, Bool, true, false, cond, List, [], ◌∷◌, map, Result, Ok, Err, refl, ap, ◌∙◌, subst, arith}
use Rattle.std.specs.List.{All, concat}
use Rattle.std.proofs.lemmas.List.Elements.{All-head, All-tail}
use Rattle.nr_rev.specs.Run.{Recording}
use Rattle.nr_command.specs.declared.command.Command.{Command}
use Rattle.nr_command.specs.declared.command.Line.{Line}
use Rattle.nr_command.specs.declared.command.Line.TheVariants.{Run, Look, Resume, Empty}
use Rattle.nr_command.specs.declared.command.Line.TheVariants as lines
use Rattle.nr_command.specs.declared.command.LineFault.{LineFault}
use Rattle.nr_command.specs.Command.{meaning_of}
use Rattle.nr_lines.specs.Engine.{lines_of}
use Rattle.nr_lines.specs.Turn.{is_quit, text_or_none}
use Rattle.nr_programs.specs.Among.{AllMayMeet, MayMeet, Met, answer_among, behind_others, calm, replies_among, texts_among}
use Rattle.nr_programs.specs.Transcript.{AllMayHave, Answered, CommandMayHave, JournalSize, MayHave, SessionState, Supply, UnlessQuit, enough, line_answer, replies, texts}

-- other fronts placed no words before the line
abbrev pub MeetsNoOther : Met → Type 0
MeetsNoOther m = m.others ≡ []

-- the `Supply` of each line
abbrev pub supplies_of : List Met → List Supply
supplies_of met = map (λ m. m.supply) met

behind_nobody : (r : Recording) (s : SessionState) → behind_others r [] s ≡ s
behind_nobody r s = let none : s.placed + 0 ≡ s.placed = omega arith in ap (λ (n : ℕ). record s { placed = n }) none

behind_none : (r : Recording) (words : List ℕ) (s : SessionState) → words ≡ [] → behind_others r words s ≡ s
behind_none r words s none = ap (λ (l : List ℕ). behind_others r l s) none ∙ behind_nobody r s

alone_answer : (r : Recording) (owed : Option Command) (asked : Result Line LineFault) (m : Met) (s : SessionState) → MeetsNoOther m → answer_among r owed asked m s ≡ line_answer r owed asked m.supply s
alone_answer r None (Ok (Run command)) m s none = ap (line_answer r None (Ok (Run command)) m.supply) (behind_none r m.others s none)
alone_answer r None (Ok (Look query)) m s none = ap (line_answer r None (Ok (Look query)) m.supply) (behind_none r m.others s none)
alone_answer r None (Ok Resume) m s none = refl
alone_answer r None (Ok lines.Quit) m s none = refl
alone_answer r None (Ok Empty) m s none = refl
alone_answer r None (Err fault) m s none = refl
alone_answer r (Some owed) (Ok (Run command)) m s none = refl
alone_answer r (Some owed) (Ok (Look query)) m s none = refl
alone_answer r (Some owed) (Ok Resume) m s none = refl
alone_answer r (Some owed) (Ok lines.Quit) m s none = refl
alone_answer r (Some owed) (Ok Empty) m s none = refl
alone_answer r (Some owed) (Err fault) m s none = refl

enough_of : (m : Met) → m ≡ calm → m.supply ≡ enough
enough_of m is = ap (λ (x : Met). x.supply) is

alone_may : (r : Recording) (journal : JournalSize) (owed : Option Command) (asked : Result Line LineFault) (m : Met) (s : SessionState) → MeetsNoOther m → MayMeet r journal owed asked m s
    → MayHave r journal owed asked m.supply s
alone_may r journal None (Ok (Run command)) m s none may = subst (CommandMayHave r journal command m.supply) (behind_none r m.others s none) may
alone_may r journal None (Ok (Look query)) m s none may = may
alone_may r journal None (Ok Resume) m s none may = enough_of m may
alone_may r journal None (Ok lines.Quit) m s none may = enough_of m may
alone_may r journal None (Ok Empty) m s none may = enough_of m may
alone_may r journal None (Err fault) m s none may = enough_of m may
alone_may r journal (Some owed) (Ok (Run command)) m s none may = enough_of m may
alone_may r journal (Some owed) (Ok (Look query)) m s none may = enough_of m may
alone_may r journal (Some owed) (Ok Resume) m s none may = may.1
alone_may r journal (Some owed) (Ok lines.Quit) m s none may = enough_of m may
alone_may r journal (Some owed) (Ok Empty) m s none may = enough_of m may
alone_may r journal (Some owed) (Err fault) m s none may = enough_of m may

-- if other fronts placed no words before a line, `line_answer` gives the same texts as
-- `answer_among`
text_alone : (r : Recording) (line : List ℕ) (rest : Answered → List (List ℕ)) (m : Met) (s : SessionState) → MeetsNoOther m
    → text_or_none (answer_among r s.owed (meaning_of line) m s).0 ∷ rest (answer_among r s.owed (meaning_of line) m s)
    ≡ text_or_none (line_answer r s.owed (meaning_of line) m.supply s).0 ∷ rest (line_answer r s.owed (meaning_of line) m.supply s)
text_alone r line rest m s none = ap (λ (a : Answered). text_or_none a.0 ∷ rest a) (alone_answer r s.owed (meaning_of line) m s none)

texts_alone : (r : Recording) (s : SessionState) (lines : List (List ℕ)) (met : List Met) → All MeetsNoOther met → texts_among r s lines met ≡ texts r s lines (supplies_of met)
texts_alone r s [] met all = refl
texts_alone r s (line ∷ lines) [] all =
    let a = line_answer r s.owed (meaning_of line) enough s in
    text_alone r line (λ x. cond (is_quit (meaning_of line)) [] (texts_among r x.1 lines [])) calm s refl
    ∙ ap (λ (l : List (List ℕ)). text_or_none a.0 ∷ cond (is_quit (meaning_of line)) [] l) (texts_alone r a.1 lines [] all)
texts_alone r s (line ∷ lines) (m ∷ met) all =
    let a = line_answer r s.owed (meaning_of line) m.supply s in
    text_alone r line (λ x. cond (is_quit (meaning_of line)) [] (texts_among r x.1 lines met)) m s (All-head MeetsNoOther m met all)
    ∙ ap (λ (l : List (List ℕ)). text_or_none a.0 ∷ cond (is_quit (meaning_of line)) [] l) (texts_alone r a.1 lines met (All-tail MeetsNoOther m met all))

unless_maps : (quits : Bool) {one other : Type 0} → (one → other) → UnlessQuit quits one → UnlessQuit quits other
unless_maps true f later = tt
unless_maps false f later = f later

pub all_may_alone : (r : Recording) (journal : JournalSize) (s : SessionState) (lines : List (List ℕ)) (met : List Met) → All MeetsNoOther met → AllMayMeet r journal s lines met → AllMayHave r journal s lines (supplies_of met)
all_may_alone r journal s [] met all may = tt
all_may_alone r journal s (line ∷ lines) [] all may =
    let same = alone_answer r s.owed (meaning_of line) calm s refl in (
      alone_may r journal s.owed (meaning_of line) calm s refl may.0,
      unless_maps (is_quit (meaning_of line))
          (λ later. all_may_alone r journal (line_answer r s.owed (meaning_of line) enough s).1 lines [] all (subst (λ (a : Answered). AllMayMeet r journal a.1 lines []) same later)) may.1,
    )
all_may_alone r journal s (line ∷ lines) (m ∷ met) all may =
    let none = All-head MeetsNoOther m met all in
    let same = alone_answer r s.owed (meaning_of line) m s none in (
      alone_may r journal s.owed (meaning_of line) m s none may.0,
      unless_maps (is_quit (meaning_of line))
          (λ later. all_may_alone r journal (line_answer r s.owed (meaning_of line) m.supply s).1 lines met (All-tail MeetsNoOther m met all) (subst (λ (a : Answered). AllMayMeet r journal a.1 lines met) same later)) may.1,
    )

pub replies_alone : (r : Recording) (s : SessionState) (ended : Bool) (commands : List ℕ) (met : List Met) → All MeetsNoOther met → replies_among r s ended commands met ≡ replies r s ended commands (supplies_of met)
replies_alone r s ended commands met all = ap concat (texts_alone r s (lines_of ended commands) met all)
