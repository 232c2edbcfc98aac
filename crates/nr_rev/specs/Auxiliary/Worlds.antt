-- Helper definitions for `Worlds`. The laws in THEOREM.md don't use them.
use Rattle.std.specs.Prelude.{◌<◌, List, length, Option, Some, None}

-- true if there is a list and it isn't empty
abbrev pub HasItems : {A : Type 0} → Option (List A) → Type 0
HasItems None = ⊥
HasItems (Some items) = 0 < length items
