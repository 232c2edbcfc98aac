-- Numbers that are at least 1.
use Rattle.std.specs.Prelude.{ℕ, Option, Some, None}
use Rattle.std.specs.declared.num.NonZeroU32.{NonZeroU32}
use Rattle.std.proofs.Common.{suc, zero, zero-lt-suc}

-- a number that is at least 1, or `None` for 0
abbrev pub from_one : ℕ → Option NonZeroU32
from_one zero = None
from_one (suc n) = Some (record { value = suc n; ok = zero-lt-suc n })
