-- Helper definitions for `Reversible`. The laws in THEOREM.md don't use them.
use Rattle.std.specs.Prelude.{◌≡◌, ℕ, ◌+◌, ◌/◌, ◌≤◌, Bool, true}

-- true if a delta has at most as many words as its operation's allowance, plus one word for each
-- eight bytes that left a buffer, rounded up
abbrev pub IsLight : {Op Answer Delta : Type 0} → (Delta → ℕ) → (Op → ℕ) → (Op → Answer → ℕ) → Op
    → Answer → Delta → Type 0
IsLight weight allowance bytes_out op answer delta =
    weight delta ≤ allowance op + (bytes_out op answer + 7) / 8

-- true if the place keeps nothing, or holds an undo with this property
abbrev pub IfKept : {Place Undo : Type 0} → Bool → (Place → Undo → Type 0) → Place
    → (Undo → Type 0) → Type 0
IfKept {Place} {Undo} keeps holds place so =
    keeps ≡ true → (undo : Undo) × holds place undo × so undo
