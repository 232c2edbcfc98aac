-- Helper definitions for `Shared`. The laws in THEOREM.md don't use them.
use Rattle.std.specs.Prelude.{ℕ, List, [], ◌∷◌, ◌++◌, drop, if◌then◌else◌}
use Rattle.nr_rev.specs.Run.{Recording}
use Rattle.nr_command.specs.Command.{meaning_of}
use Rattle.nr_lines.specs.Turn.{is_quit}
use Rattle.nr_serving.specs.Fronts.{Course}
use Rattle.nr_programs.specs.Among.{Met, answer_among, next_met}
use Rattle.nr_programs.specs.Transcript.{SessionState}
use Rattle.nr_programs.specs.Shared.{own_word}

-- the words of the commands that these lines placed, up to the first `quit`
abbrev pub placed_words : ℕ → Recording → SessionState → List (List ℕ) → List Met → List ℕ
placed_words tag r s [] met = []
placed_words tag r s (line ∷ lines) met =
    let asked = meaning_of line in
    let a = answer_among r s.owed asked (next_met met) s in
    own_word tag s.owed asked (next_met met).supply
    ++ (if is_quit asked then [] else placed_words tag r a.1 lines (drop 1 met))

-- the tag of the front's words
abbrev pub tag_at_end : Course → ℕ
tag_at_end course = course.last.pass_state.tag
