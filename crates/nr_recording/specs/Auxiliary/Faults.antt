-- Helper definitions for `Faults`. The laws in THEOREM.md don't use them.
use Rattle.nr_rev.specs.Refusing.{refused_memory}
use Rattle.std.specs.Prelude.{◌≡◌, Result, Ok, Err}
use Rattle.hex.specs.declared.error.FromHexError.{FromHexError}
use Rattle.hex.specs.declared.error.FromHexError.TheVariants.{OutOfMemory}
use Rattle.serde_json.specs.declared.error.Category.{Category}
use Rattle.serde_json.specs.declared.error.Category.TheVariants as categories
use Rattle.serde_json.specs.declared.error.Error.{Error}
use Rattle.serde_json.specs.Errors.{category}
use Rattle.nr_recording.specs.declared.fault.Fault.{Fault}
use Rattle.nr_recording.specs.declared.fault.Fault.TheVariants as fault
use Rattle.nr_recording.specs.declared.fault.LineError.{LineError}
use Rattle.nr_recording.specs.declared.fault.LineError.TheVariants as errors

-- ---- errors of the libraries

-- the error for a text that can't be read as hexadecimal
abbrev pub of_hex : FromHexError → LineError
of_hex OutOfMemory = errors.Memory refused_memory
of_hex _ = errors.Fault fault.Arguments

-- the error for a line, given the category of the JSON reader's error
abbrev pub of_category : Category → LineError
of_category categories.Memory = errors.Memory refused_memory
of_category _ = errors.Fault fault.NotJson

-- the error for a text that the JSON reader rejects
abbrev pub of_json : Error → LineError
of_json e = of_category (category e)

-- true if reading fails with this fault, or if the error is that memory ran out
abbrev pub Fails : {Y : Type 0} → LineError → Result Y Fault → Type 0
Fails (errors.Memory refused) read = Unit {0}
Fails (errors.Fault f) read = read ≡ Err f

-- true if a function's result, mapped by `view`, equals `read`, or if memory ran out
abbrev pub ReadsBy : {X Y : Type 0} → (X → Y) → Result X LineError → Result Y Fault → Type 0
ReadsBy view (Ok x) read = read ≡ Ok (view x)
ReadsBy view (Err e) read = Fails e read

-- true if a function's result equals `read`, or if memory ran out
abbrev pub Reads : {X : Type 0} → Result X LineError → Result X Fault → Type 0
Reads result read = ReadsBy (λ x. x) result read
