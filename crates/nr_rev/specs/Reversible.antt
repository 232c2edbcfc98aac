-- Statements about a single operation that can be undone.
use Rattle.std.specs.Prelude.{◌≡◌, ◌⊎◌, Option, Some, None}
use Rattle.nr_rev.specs.declared.refusal.Refusal.{Refusal}
use Rattle.nr_rev.specs.Refusing.{out_of_memory}

-- True if the refusal is the reason why the operation doesn't apply in the state. If no such reason
-- exists, and the operation allocates memory, the refusal can also be that memory ran out.
abbrev pub Refuses : {State Op : Type 0} → (State → Op → Option Refusal) → (State → Op → Type 0)
    → State → Op → Refusal → Type 0
Refuses reason takes_memory old op refusal = (reason old op ≡ Some refusal)
    ⊎ ((refusal ≡ out_of_memory) × (reason old op ≡ None) × takes_memory old op)
