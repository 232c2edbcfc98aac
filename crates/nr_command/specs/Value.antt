-- The texts of cells and of their values.
use Rattle.std.specs.Prelude.{ℕ, List, ◌++◌, Option, Some, None, codes, decimal}
use Rattle.std.specs.Fmt.{signed_decimal}
use Rattle.nr_rev.specs.declared.cell.Cell.{Cell}
use Rattle.nr_rev.specs.CellName.{cell_index, cell_name}
use Rattle.nr_rev.specs.declared.cell_value.CellValue.{CellValue}
use Rattle.nr_rev.specs.declared.cell_value.CellValue.TheVariants as values
use Rattle.nr_rev.specs.declared.descriptor.WaitWord.{WaitWord}
use Rattle.nr_rev.specs.declared.descriptor.WaitWord.TheVariants.{Nil, Ready, Wait, Held}
use Rattle.nr_rev.specs.declared.status.Status.{Status}
use Rattle.nr_rev.specs.declared.status.Status.TheVariants.{Idle, Acquiring, Queued, Relock, Owing, Entering, Armed, Parking, Parked, Swapping, Checking, Gone}
use Rattle.nr_rev.specs.declared.sides.Side.{Side}
use Rattle.nr_rev.specs.declared.sides.Side.TheVariants.{Read, Write}

-- a name, followed by a number if there is one
abbrev pub text_with : List ℕ → Option ℕ → List ℕ
text_with name None = name
text_with name (Some n) = name ++ codes " " ++ decimal n

-- the text of a cell
abbrev pub cell_text : Cell → List ℕ
cell_text cell = text_with (cell_name cell) (cell_index cell)

-- the text of a wait word of a descriptor
abbrev pub wait_word_text : WaitWord → List ℕ
wait_word_text Nil = codes "nil"
wait_word_text Ready = codes "ready"
wait_word_text Wait = codes "wait"
wait_word_text (Held g) = codes "g" ++ decimal g

-- the text of a side, with a space before it
abbrev pub side_text : Side → List ℕ
side_text Read = codes " r"
side_text Write = codes " w"

-- the text of a status, with the socket or descriptor that it concerns
abbrev pub status_text : Status → List ℕ
status_text Idle = codes "idle"
status_text (Acquiring s side) = codes "acquiring " ++ decimal s ++ side_text side
status_text (Queued s side) = codes "queued " ++ decimal s ++ side_text side
status_text (Relock s side) = codes "relock " ++ decimal s ++ side_text side
status_text (Owing s reads writes) =
    codes "owing " ++ decimal s ++ codes " " ++ decimal reads ++ codes " " ++ decimal writes
status_text (Entering d side) = codes "entering " ++ decimal d ++ side_text side
status_text (Armed d side) = codes "armed " ++ decimal d ++ side_text side
status_text (Parking d side) = codes "parking " ++ decimal d ++ side_text side
status_text (Parked d side) = codes "parked " ++ decimal d ++ side_text side
status_text (Swapping d side) = codes "swapping " ++ decimal d ++ side_text side
status_text (Checking d side) = codes "checking " ++ decimal d ++ side_text side
status_text Gone = codes "gone"

-- the text of a cell's value
abbrev pub value_text : CellValue → List ℕ
value_text values.Absent = codes "absent"
value_text (values.Number n) = decimal n
value_text (values.Time t) = signed_decimal t
value_text (values.WaitWord word) = wait_word_text word
value_text (values.Status status) = status_text status
