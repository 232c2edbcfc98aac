-- Helper definitions for `Value`. The laws in THEOREM.md don't use them.
use Rattle.std.specs.Prelude.{ℕ, List, decimal}
use Rattle.nr_rev.specs.declared.cell.Cell.{Cell}
use Rattle.nr_command.specs.declared.value.Piece.{Piece}
use Rattle.nr_command.specs.declared.value.Piece.TheVariants as pieces
use Rattle.nr_command.specs.Value.{cell_text, value_text}

-- the text of one piece of the line that shows a cell
abbrev pub piece_text : Piece → List ℕ
piece_text (pieces.Text text) = text.now
piece_text (pieces.Number number) = decimal number
piece_text (pieces.Cell cell) = cell_text cell
piece_text (pieces.Value value) = value_text value
