-- The numbers that a JSON value denotes.
use Rattle.std.specs.Prelude.{ℕ, ◌^◌, Option, Some, None, option_and_then, nat_lt, if◌then◌else◌}
use Rattle.serde_json.specs.Data.{Data}
use Rattle.serde_json.specs.Find.{as_number, as_u64}

-- an unsigned 32-bit number
abbrev pub u32_of : Data → Option ℕ
u32_of d = option_and_then (λ n. if nat_lt n (2 ^ 32) then Some n else None)
    (option_and_then as_u64 (as_number d))
