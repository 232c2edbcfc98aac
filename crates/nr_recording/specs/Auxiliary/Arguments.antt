-- Helper definitions for `Arguments`. The laws in THEOREM.md don't use them.
use Rattle.std.specs.Prelude.{ℕ, ◌%◌, ◌==◌, List, length, Bool, false, not, ◌&&◌, Result, Ok, Err, nat_lt}
use Rattle.std.specs.Option.{option_map_or}
use Rattle.serde_json.specs.Data.{Data, Items, no_items, item}
use Rattle.serde_json.specs.Find.{as_str}
use Rattle.nr_recording.specs.declared.fault.Fault.{Fault}
use Rattle.nr_recording.specs.Arguments.{most_digits}

-- true if decoding a text as hexadecimal digits allocates memory: its length is even and within the
-- maximum
abbrev pub digits_take_memory : List ℕ → Bool
digits_take_memory text = not (nat_lt most_digits (length text)) && (length text % 2 == 0)

-- true if the argument is a text and reading its bytes allocates memory
abbrev pub argument_takes_memory : Data → Bool
argument_takes_memory d = option_map_or digits_take_memory (as_str d) false

-- the result of a function that reads arguments, paired with the arguments that remain
abbrev pub with_rest : {A : Type 0} → Items → Result A Fault → Result (A × Items) Fault
with_rest ds (Ok x) = Ok (x, ds)
with_rest ds (Err f) = Err f

-- ---- reading that allocates memory

-- true if reading the first argument allocates memory
abbrev pub first_takes_memory : Items → Bool
first_takes_memory no_items = false
first_takes_memory (item d ds) = argument_takes_memory d

-- true if reading the next argument allocates memory, given the result of reading those before it
abbrev pub next_takes_memory : {A : Type 0} → Result (A × Items) Fault → Bool
next_takes_memory (Ok found) = first_takes_memory found.1
next_takes_memory (Err f) = false
