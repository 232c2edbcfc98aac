-- The arguments of a step, and how each is read from JSON.
use Rattle.std.specs.Prelude.{ℕ, ◌*◌, ◌==◌, List, length, Bool, true, false, ℤ, pos, int_lt, Option, Some, None, option_map, option_and_then, Result, Ok, Err, nat_lt, if◌then◌else◌, codes, ⊤}
use Rattle.std.specs.Str.{bytes_eq}
use Rattle.std.specs.Result.{result_ok}
use Rattle.hex.specs.Hex.{decode_of}
use Rattle.serde_json.specs.Data.{Data, Items, no_items, item}
use Rattle.serde_json.specs.Find.{as_number, as_u64, as_i64, as_str}
use Rattle.nr_recording.specs.declared.fault.Fault.{Fault}
use Rattle.nr_recording.specs.declared.fault.Fault.TheVariants as fault
use Rattle.nr_recording.specs.declared.recording.TheConstants.{MOST_BYTES}
use Rattle.nr_recording.specs.Answer.{answer_of}
use Rattle.nr_recording.specs.Faults.{◌>>=◌, or_fault}
use Rattle.nr_recording.specs.Numbers.{u32_of}
use Rattle.nr_rev.specs.declared.answer.Answer.{Answer}
use Rattle.nr_rev.specs.declared.sides.Side.{Side}
use Rattle.nr_rev.specs.declared.sides.Side.TheVariants as sides
use Rattle.nr_rev.specs.declared.sides.Mode.{Mode}
use Rattle.nr_rev.specs.declared.sides.Mode.TheVariants as modes

-- ---- one argument

-- an unsigned 64-bit number
abbrev pub u64_of : Data → Option ℕ
u64_of d = option_and_then as_u64 (as_number d)

-- the bit that 0 or 1 denotes
abbrev pub bit_named : ℕ → Option Bool
bit_named n = if n == 0 then Some false else (if n == 1 then Some true else None)

-- a bit
abbrev pub bit_of : Data → Option Bool
bit_of d = option_and_then bit_named (u64_of d)

-- a signed 64-bit number
abbrev pub i64_of : Data → Option ℤ
i64_of d = option_and_then as_i64 (as_number d)

-- the time, if it is at least 0
abbrev pub from_zero : ℤ → Option ℤ
from_zero z = if int_lt z (pos 0) then None else Some z

-- a time that is at least 0, as a JSON value
abbrev pub time_of : Data → Option ℤ
time_of d = option_and_then from_zero (i64_of d)

-- the side that a word denotes
abbrev pub side_named : List ℕ → Option Side
side_named text = if bytes_eq text (codes "r") then Some sides.Read
    else (if bytes_eq text (codes "w") then Some sides.Write else None)

-- one side
abbrev pub side_of : Data → Option Side
side_of d = option_and_then side_named (as_str d)

-- the mode that a word denotes: one side or both
abbrev pub mode_named : List ℕ → Option Mode
mode_named text = if bytes_eq text (codes "r") then Some modes.Read
    else (if bytes_eq text (codes "w") then Some modes.Write
    else (if bytes_eq text (codes "rw") then Some modes.Both else None))

-- one side or both
abbrev pub mode_of : Data → Option Mode
mode_of d = option_and_then mode_named (as_str d)

-- the maximum number of hexadecimal digits in an argument, two for each byte: 131,072
abbrev pub most_digits : ℕ
most_digits = 2 * MOST_BYTES

-- the bytes that an even number of hexadecimal digits denote, if there are at most most_digits
abbrev pub bytes_named : List ℕ → Option (List ℕ)
bytes_named text = if nat_lt most_digits (length text) then None else result_ok (decode_of text)

-- bytes
abbrev pub hex_of : Data → Option (List ℕ)
hex_of d = option_and_then bytes_named (as_str d)

-- ---- arguments at the front of a list, each returned with the rest of the list

-- the first argument, or the fault Arguments if it is missing or has another form
abbrev pub first_by : {A : Type 0} → (Data → Option A) → Items → Result (A × Items) Fault
first_by read no_items = Err fault.Arguments
first_by read (item d ds) = or_fault fault.Arguments (option_map (λ x. (x, ds)) (read d))

-- no argument
unfoldable pub none : Items → Result (⊤ × Items) Fault
none ds = Ok (tt, ds)

-- an unsigned 32-bit number
abbrev pub number : Items → Result (ℕ × Items) Fault
number ds = first_by u32_of ds

-- an unsigned 64-bit number
abbrev pub tag : Items → Result (ℕ × Items) Fault
tag ds = first_by u64_of ds

-- a bit, 0 or 1
abbrev pub bit : Items → Result (Bool × Items) Fault
bit ds = first_by bit_of ds

-- a signed time
abbrev pub moment : Items → Result (ℤ × Items) Fault
moment ds = first_by i64_of ds

-- a time that is at least 0
abbrev pub time : Items → Result (ℤ × Items) Fault
time ds = first_by time_of ds

-- one side
abbrev pub side : Items → Result (Side × Items) Fault
side ds = first_by side_of ds

-- one side or both
abbrev pub mode : Items → Result (Mode × Items) Fault
mode ds = first_by mode_of ds

-- a recorded answer
abbrev pub answer : Items → Result (Answer × Items) Fault
answer ds = first_by answer_of ds

-- bytes, as hexadecimal digits
abbrev pub bytes : Items → Result (List ℕ × Items) Fault
bytes ds = first_by hex_of ds

infixr 20 ◌and◌
-- two groups of arguments in sequence
abbrev pub ◌and◌ : {A B : Type 0} → (Items → Result (A × Items) Fault)
    → (Items → Result (B × Items) Fault) → Items → Result ((A × B) × Items) Fault
(first and second) ds = do
  x ← first ds
  y ← second x.1
  Ok ((x.0, y.0), y.1)
