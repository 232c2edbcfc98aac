-- Helper definitions for `Spelling`. The laws in THEOREM.md don't use them.
use Rattle.std.specs.Prelude.{◌≡◌, ℕ, ◌<◌, ◌^◌, ℤ, pos, negsuc, Bool, true, false, List, [], ◌∷◌, slice_index, codes, ⊤}
use Rattle.hex.specs.Hex.{encode_lower}
use Rattle.serde_json.specs.Data.{Data, number, unsigned, string, array, no_items, item, Items}
use Rattle.serde_json.specs.Find.{of_integer}
use Rattle.nr_rev.specs.declared.sides.Side.{Side}
use Rattle.nr_rev.specs.declared.sides.Side.TheVariants as sides
use Rattle.nr_rev.specs.declared.sides.Mode.{Mode}
use Rattle.nr_rev.specs.declared.sides.Mode.TheVariants as modes
use Rattle.nr_recording.specs.Auxiliary.Answer.{answer_data, IsAnswerInType}
use Rattle.nr_recording.specs.Spelling.{Argument, numeral, tag, time, side, mode, bit, digits, answer}

-- the word for a side
abbrev pub side_name : Side → List ℕ
side_name sides.Read = codes "r"
side_name sides.Write = codes "w"

-- the word for a mode
abbrev pub mode_name : Mode → List ℕ
mode_name modes.Read = codes "r"
mode_name modes.Write = codes "w"
mode_name modes.Both = codes "rw"

-- the number for a bit
abbrev pub bit_number : Bool → ℕ
bit_number false = 0
bit_number true = 1

-- the JSON of an argument
abbrev pub argument_data : Argument → Data
argument_data (numeral n) = number (unsigned n)
argument_data (tag n) = number (unsigned n)
argument_data (time t) = number (of_integer t)
argument_data (side s) = string (side_name s)
argument_data (mode m) = string (mode_name m)
argument_data (bit b) = number (unsigned (bit_number b))
argument_data (digits bytes) = string (encode_lower bytes)
argument_data (answer a) = answer_data a

-- the JSON of some arguments
abbrev pub arguments_data : List Argument → Items
arguments_data [] = no_items
arguments_data (a ∷ rest) = item (argument_data a) (arguments_data rest)

-- true if the number is a signed 64-bit number
abbrev pub IsMoment : ℤ → Type 0
IsMoment (pos n) = n < 2 ^ 63
IsMoment (negsuc n) = n < 2 ^ 63

-- true if the argument is in the range of its type
abbrev pub IsInType : Argument → Type 0
IsInType (numeral n) = n < 2 ^ 32
IsInType (tag n) = n < 2 ^ 64
IsInType (time t) = IsMoment t
IsInType (side s) = ⊤
IsInType (mode m) = ⊤
IsInType (bit b) = ⊤
IsInType (digits bytes) = (i : ℕ) → slice_index bytes i < 256
IsInType (answer a) = IsAnswerInType a

-- true if each argument is in the range of its type
abbrev pub AreInTypes : List Argument → Type 0
AreInTypes [] = ⊤
AreInTypes (a ∷ rest) = IsInType a × AreInTypes rest

-- the JSON array of a name and its arguments
abbrev pub line_data : List ℕ × List Argument → Data
line_data line = array (item (string line.0) (arguments_data line.1))

-- true if d is the JSON of the line and the line's arguments are in the ranges of their types
pub record IsSpelling (d : Data) (line : List ℕ × List Argument) : Type 0 where
  pub is : d ≡ line_data line
  pub typed : AreInTypes line.1
