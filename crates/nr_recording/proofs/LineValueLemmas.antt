-- The result of the JSON reader determines the value of a line.
use Rattle.std.proofs.Common.{◌≡◌, ℕ, Bool, true, false, List, Some, None, Result, Ok, Err, refl}
use Rattle.std.specs.Str.{IsUtf8, is_utf8}
use Rattle.std.proofs.lemmas.Str.{IsUtf8-from_is_utf8, is_utf8-from_IsUtf8}
use Rattle.serde_json.specs.Data.{Data}
use Rattle.serde_json.specs.Errors.{IsMemory, category}
use Rattle.serde_json.specs.declared.error.Category.{Category}
use Rattle.serde_json.specs.declared.error.Category.TheVariants as categories
use Rattle.serde_json.specs.declared.error.Error.{Error}
use Rattle.serde_json.specs.Read.{read}
use Rattle.nr_recording.specs.declared.fault.Fault.{Fault}
use Rattle.nr_recording.specs.declared.fault.Fault.TheVariants as fault
use Rattle.nr_recording.specs.Auxiliary.Faults.{Fails, of_category, of_json}
use Rattle.nr_recording.specs.Reading.{value_of}

pub value_of_valid : (line : List ℕ) (d : Data) → IsUtf8 line × (read line ≡ Some d) → value_of line ≡ Ok d
unfolding value_of
value_of_valid line d h = rw (is_utf8-from_IsUtf8 line h.0, h.1) refl

pub value_of_refused : (line : List ℕ) → (IsUtf8 line → read line ≡ None) → value_of line ≡ Err fault.NotJson
unfolding value_of
value_of_refused line h =
    (elim (is_utf8 line) as (λ (b : Bool). is_utf8 line ≡ b → value_of line ≡ Err fault.NotJson) [
      | true ↦ λ e. rw (e, h (IsUtf8-from_is_utf8 line e)) refl
      | false ↦ λ e. rw e refl
    ]) refl

-- an error of the JSON reader other than running out of memory becomes the fault NotJson
reported : {Y : Type 0} (category : Category) (read : Result Y Fault) → (¬ (category ≡ categories.Memory) → read ≡ Err fault.NotJson) → Fails (of_category category) read
reported categories.Io read h = h (λ e. cc)
reported categories.Syntax read h = h (λ e. cc)
reported categories.Data read h = h (λ e. cc)
reported categories.Eof read h = h (λ e. cc)
reported categories.Memory read h = tt

pub json_reported : (line : List ℕ) (e : Error) → (¬ IsMemory e → IsUtf8 line → read line ≡ None) → Fails (of_json e) (value_of line)
json_reported line e h = reported (category e) (value_of line) (λ other. value_of_refused line (h (λ memory. other (rw memory refl))))
