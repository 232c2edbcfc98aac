-- The calls of a reader or a writer, and their outcomes.
use Rattle.std.specs.Prelude.{◌≡◌, ℕ, ◌==◌, ◌&&◌, ◌||◌, nat_lt, Bool, true, false, List, [], ◌∷◌, length, take, flat_map, Option, Some, None, refl}
use Rattle.std.specs.Coded.{Coded, code_by, coded×, coded_ℕ, coded_list, coded_option}
use Rattle.std.specs.List.{list_any}
use Rattle.std.specs.declared.io.ErrorKind.{ErrorKind}
use Rattle.std.specs.declared.io.ErrorKind.TheVariants as kind
use Rattle.nr_text.specs.declared.calls.CallOutcome.{CallOutcome}
use Rattle.nr_text.specs.declared.calls.CallOutcome.TheVariants.{Moved, Interrupted, Failed}

-- a call: its buffer, and its outcome
abbrev pub Call : Type 0
Call = List ℕ × CallOutcome

-- the outcome of a call that returned an error of this kind
abbrev pub outcome_of_kind : ErrorKind → CallOutcome
outcome_of_kind kind.Interrupted = Interrupted
outcome_of_kind _ = Failed

-- the bytes that a call moved: the first bytes of its buffer
abbrev pub moved : Call → List ℕ
moved (buffer, Moved n) = take n buffer
moved (buffer, Interrupted) = []
moved (buffer, Failed) = []

-- the bytes that the calls moved, in order
abbrev pub bytes_of : List Call → List ℕ
bytes_of calls = flat_map moved calls

-- True if the call moved no bytes, though its buffer wasn't empty. For a read, this means that it
-- found the end.
abbrev pub moves_none : Call → Bool
moves_none (buffer, Moved n) = (n == 0) && nat_lt 0 (length buffer)
moves_none (buffer, _) = false

-- true if the last of these reads found the end
abbrev pub finds_end : List Call → Bool
finds_end [] = false
finds_end (call ∷ []) = moves_none call
finds_end (call ∷ next ∷ more) = finds_end (next ∷ more)

-- true if the call failed
abbrev pub fails : Call → Bool
fails (buffer, Failed) = true
fails (buffer, _) = false

-- true if one of these reads failed
abbrev pub a_read_failed : List Call → Bool
a_read_failed calls = list_any fails calls

-- true if one of these writes failed, or wrote none of its bytes
abbrev pub a_write_failed : List Call → Bool
a_write_failed calls = list_any (λ call. fails call || moves_none call) calls

-- ---- the encoding of calls for ghost fields

abbrev to_parts : CallOutcome → Option (Option ℕ)
to_parts (Moved n) = Some (Some n)
to_parts Interrupted = Some None
to_parts Failed = None

abbrev from_parts : Option (Option ℕ) → CallOutcome
from_parts (Some (Some n)) = Moved n
from_parts (Some None) = Interrupted
from_parts None = Failed

pub from_parts-to_parts : (outcome : CallOutcome) → from_parts (to_parts outcome) ≡ outcome
from_parts-to_parts (Moved n) = refl
from_parts-to_parts Interrupted = refl
from_parts-to_parts Failed = refl

abbrev outcome_code : Coded CallOutcome
outcome_code =
    code_by (Option (Option ℕ)) (coded_option (coded_option coded_ℕ)) to_parts from_parts
    from_parts-to_parts

abbrev pub calls_code : Coded (List Call)
calls_code = coded_list (coded× (coded_list coded_ℕ) outcome_code)
