-- Helper definitions for `Refusing`. The laws in THEOREM.md don't use them.
use Rattle.std.specs.Prelude.{◌≡◌, Result, Ok, Err}

-- True if the definition agrees with the result. For a value, the definition gives the view of that
-- value. For an error, it gives the same error.
abbrev pub Gives : {X Y E : Type 0} → (X → Y) → Result X E → Result Y E → Type 0
Gives view (Ok x) defined = defined ≡ Ok (view x)
Gives view (Err e) defined = defined ≡ Err e
