-- Lemmas about testing, setting and clearing single bits of the byte that encodes the marks.
use Rattle.std.proofs.Common.{◌≡◌, ℕ, ◌+◌, ◌*◌, ◌/◌, ◌%◌, ◌<◌, bit_and, bit_or, arith}
use Rattle.std.proofs.lemmas.Nat.Bits.{and_pow}
use Rattle.std.proofs.lemmas.Bool.Decides.{nat_tests}
use Rattle.nr_rev.proofs.BitLemmas.{and_2, and_4, and_not_pow, or_1, or_2, or_4, or_pow}

pub and_8 : (w : ℕ) → bit_and w 8 ≡ w / 8 % 2 * 8
and_8 w = and_pow w 3

pub or_8 : (w : ℕ) → bit_or w 8 + w / 8 % 2 * 8 ≡ w + 8
or_8 w = or_pow w 3

pub and_not_2 : (w : ℕ) → w < 16 → bit_and w 253 + w / 2 % 2 * 2 ≡ w
and_not_2 w h = and_not_pow 8 w 1 (omega arith) (omega arith)

pub and_not_4 : (w : ℕ) → w < 16 → bit_and w 251 + w / 4 % 2 * 4 ≡ w
and_not_4 w h = and_not_pow 8 w 2 (omega arith) (omega arith)

pub and_not_8 : (w : ℕ) → w < 16 → bit_and w 247 + w / 8 % 2 * 8 ≡ w
and_not_8 w h = and_not_pow 8 w 3 (omega arith) (omega arith)

pub ruleset single_bits = (and_2, and_4, and_8, or_1, or_2, or_4, or_8, and_not_2, and_not_4, and_not_8, nat_tests)
