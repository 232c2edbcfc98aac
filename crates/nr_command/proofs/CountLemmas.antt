-- Numbers that are at least 1 are equal if their values are equal.
use Rattle.std.proofs.Common.{◌≡◌, ℕ, zero, suc, ◌<◌, Option, Some, None, arith, refl, sym, ap, subst}
use Rattle.std.proofs.Math.Bridge.{le_prop}
use Rattle.std.specs.Prelude.{MatchOption}
use Rattle.std.specs.declared.num.NonZeroU32.{NonZeroU32}
use Rattle.nr_command.specs.Count.{from_one}

count : (n : ℕ) → 0 < n → NonZeroU32
count n some = record { value = n; ok = some }

same_count : (a b : NonZeroU32) → a.value ≡ b.value → a ≡ b
unfolding count
same_count a b e =
    let along : (some : 0 < b.value) → count a.value a.ok ≡ count b.value some =
    subst (λ (n : ℕ). (some : 0 < n) → count a.value a.ok ≡ count n some) e (λ some. ap (count a.value) (le_prop a.ok some)) in
    along b.ok

-- a number that is at least 1 can be read back from its value
pub from_one_is : (n : ℕ) (count : NonZeroU32) → count.value ≡ n → Some count ≡ from_one n
from_one_is zero count e = absurd (omega (arith, e, count.ok))
from_one_is (suc n) count e = ap Some (same_count count _ e)

pub from_one_made : (n : ℕ) (made : Option NonZeroU32) → MatchOption made (n ≡ 0) (λ count. count.value ≡ n) → made ≡ from_one n
from_one_made n None e = subst (λ (k : ℕ). ◌≡◌ {A = Option NonZeroU32} None (from_one k)) (sym e) refl
from_one_made n (Some count) e = from_one_is n count e
