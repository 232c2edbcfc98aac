-- The lines of a text.
use Rattle.std.specs.Prelude.{ℕ, ◌==◌, ◌&&◌, nat_lt, Bool, List, [], ◌∷◌, length, if◌then◌else◌}
use Rattle.std.specs.List.{list_any, slice_split}
use Rattle.nr_command.specs.Command.{meaning_of}
use Rattle.nr_lines.specs.Turn.{is_quit}

-- The lines of a text, given the parts between its line feeds. Each part but the last is a line. If
-- the text is at its end, the last part is a line too, unless it is empty.
abbrev pub lines_in : Bool → List (List ℕ) → List (List ℕ)
lines_in ended [] = []
lines_in ended (last ∷ []) = if ended && nat_lt 0 (length last) then last ∷ [] else []
lines_in ended (line ∷ next ∷ more) = line ∷ lines_in ended (next ∷ more)

-- The lines of a text, without their line feeds. The bytes after the last line feed are a line only
-- if the text is complete (`ended`).
abbrev pub lines_of : Bool → List ℕ → List (List ℕ)
lines_of ended text = lines_in ended (slice_split (λ b. b == 10) text)

-- true if one of the lines is `quit`
abbrev pub has_quit : List (List ℕ) → Bool
has_quit lines = list_any (λ line. is_quit (meaning_of line)) lines
