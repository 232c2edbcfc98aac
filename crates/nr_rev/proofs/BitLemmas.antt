-- Lemmas about testing, setting and clearing a single bit of a number.
use Rattle.std.proofs.Common.{◌≡◌, ℕ, ◌+◌, ◌-◌, ◌*◌, ◌/◌, ◌%◌, ◌^◌, ◌<◌, ◌==◌, Bool, true, false, bit_and, bit_or, refl, ◌∙◌, sym, ap, arith, inl, inr}
use Rattle.std.proofs.lemmas.Nat.{and_comm, and-not}
use Rattle.std.proofs.lemmas.Nat.Bits.{and_pow}
use Rattle.std.proofs.lemmas.Bool.Decides.{eqb_tells}
use Rattle.std.specs.Int.Bits.{or_add_and}
use Rattle.nr_rev.specs.Lock.{bit}

pub or_pow : (w k : ℕ) → bit_or w (2 ^ k) + w / 2 ^ k % 2 * 2 ^ k ≡ w + 2 ^ k
or_pow w k = ap (λ n. bit_or w (2 ^ k) + n) (sym (and_pow w k)) ∙ or_add_and w (2 ^ k)

-- clearing a bit of a number of `width` bits
pub and_not_pow : (width w k : ℕ) → 2 ^ k < 2 ^ width → w < 2 ^ width → bit_and w (2 ^ width - 1 - 2 ^ k) + w / 2 ^ k % 2 * 2 ^ k ≡ w
and_not_pow width w k within fits =
    omega (arith, and-not width (2 ^ k) w within fits, and_comm w (2 ^ width - 1 - 2 ^ k), and_comm w (2 ^ k), and_pow w k)

pub and_2 : (w : ℕ) → bit_and w 2 ≡ w / 2 % 2 * 2
and_2 w = and_pow w 1

pub and_4 : (w : ℕ) → bit_and w 4 ≡ w / 4 % 2 * 4
and_4 w = and_pow w 2

pub or_1 : (w : ℕ) → bit_or w 1 + w % 2 ≡ w + 1
or_1 w = omega (arith, or_pow w 0)

pub or_2 : (w : ℕ) → bit_or w 2 + w / 2 % 2 * 2 ≡ w + 2
or_2 w = or_pow w 1

pub or_4 : (w : ℕ) → bit_or w 4 + w / 4 % 2 * 4 ≡ w + 4
or_4 w = or_pow w 2

-- `bit (n % 2 == 1)`, which is 1 if n is odd and otherwise 0, is the lowest bit of n
pub bit_of : (n : ℕ) → bit (n % 2 == 1) ≡ n % 2
bit_of n = elim (eqb_tells (n % 2) 1) [ inl p ↦ ap bit p.0 ∙ sym p.1 | inr p ↦ ap bit p.0 ∙ omega (arith, p.1) ]

pub bit_small : (b : Bool) → bit b < 2
bit_small true = omega arith
bit_small false = omega arith

-- a Boolean, converted to a number, is 1 if and only if it is true
pub test_of : (b : Bool) (n : ℕ) → n ≡ bit b → (n == 1) ≡ b
test_of true n is = rw is refl
test_of false n is = rw is refl
