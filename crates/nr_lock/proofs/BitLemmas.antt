-- Lemmas about testing, setting and clearing single bits of a lock word.
use Rattle.std.proofs.Common.{◌≡◌, ℕ, ◌+◌, ◌*◌, ◌/◌, ◌%◌, ◌^◌, ◌<◌, bit_and, arith}
use Rattle.std.proofs.lemmas.Nat.{and_mask}
use Rattle.std.proofs.lemmas.Bool.Decides.{nat_tests}
use Rattle.nr_rev.proofs.BitLemmas.{and_2, and_4, and_not_pow, or_1, or_2, or_4}

pub and_not_2 : (w : ℕ) → w < 2 ^ 63 → bit_and w 18446744073709551613 + w / 2 % 2 * 2 ≡ w
and_not_2 w h = and_not_pow 64 w 1 (omega arith) (omega arith)

pub and_not_4 : (w : ℕ) → w < 2 ^ 63 → bit_and w 18446744073709551611 + w / 4 % 2 * 4 ≡ w
and_not_4 w h = and_not_pow 64 w 2 (omega arith) (omega arith)

-- the bits below the waiters
pub and_low : (w : ℕ) → bit_and w 8388607 ≡ w % 2 ^ 23
and_low w = and_mask w 23

pub ruleset single_bits = (and_2, and_4, or_1, or_2, or_4, and_not_2, and_not_4, and_low, nat_tests)
