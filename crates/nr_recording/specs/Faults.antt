-- Reading that may end with a fault.
use Rattle.std.specs.Prelude.{ℕ, List, ◌++◌, Option, Some, None, Result, Ok, Err, codes, decimal}
use Rattle.nr_recording.specs.declared.fault.Fault.{Fault}
use Rattle.nr_recording.specs.declared.fault.Fault.TheVariants as fault
use Rattle.nr_recording.specs.declared.fault.ReadFault.{ReadFault}
use Rattle.nr_recording.specs.declared.fault.ReadFault.TheVariants as reads

-- ---- texts

-- a fault's number and text
abbrev pub fault_text : Fault → List ℕ
fault_text fault.Header = codes "101 header"
fault_text fault.NotJson = codes "102 not JSON"
fault_text fault.UnknownStep = codes "103 unknown step"
fault_text fault.Arguments = codes "104 arguments"
fault_text fault.Limit = codes "105 limit"
fault_text fault.TooManySteps = codes "106 too many steps"

-- the text of the error for a failed allocation
abbrev pub memory_text : List ℕ
memory_text = codes "fault 108 memory"

-- the line that is printed if an allocation fails
abbrev pub memory_line : List ℕ
memory_line = memory_text ++ codes "\n"

-- the text that says why a text can't be read
abbrev pub read_fault_text : ReadFault → List ℕ
read_fault_text (reads.Line n f) = codes "line " ++ decimal n ++ codes ": fault " ++ fault_text f
read_fault_text (reads.Memory refused) = memory_text

-- the line that is printed if a text can't be read
abbrev pub read_fault_line : ReadFault → List ℕ
read_fault_line f = read_fault_text f ++ codes "\n"

-- ---- reading

infixl 10 ◌>>=◌
-- continues with a value, or stops at a fault
abbrev pub ◌>>=◌ : {A B E : Type 0} → Result A E → (A → Result B E) → Result B E
(Ok x) >>= f = f x
(Err e) >>= f = Err e

-- the value, or this fault if there is no value
abbrev pub or_fault : {A : Type 0} → Fault → Option A → Result A Fault
or_fault f None = Err f
or_fault f (Some x) = Ok x
