-- The lock that a word encodes.
use Rattle.std.specs.Prelude.{◌≡◌, ℕ, ◌/◌, ◌%◌, ◌^◌, ◌==◌}
use Rattle.std.proofs.Common.{arith}
use Rattle.nr_rev.specs.declared.lock.Lock.{Lock}
use Rattle.nr_rev.specs.Lock.{lock_number}
use Rattle.nr_rev.proofs.BitLemmas.{bit_of}

-- the fields of a word: bit 0 is the closed mark, bit 1 the read lock, bit 2 the write lock; the
-- references start at bit 3, the read waiters at bit 23, the write waiters at bit 43
abbrev pub lock_of : ℕ → Lock
lock_of w =
    record {
      closed = w % 2 == 1;
      locked = record { read = w / 2 % 2 == 1; write = w / 4 % 2 == 1 };
      references = w / 8 % 2 ^ 20;
      waiters = record { read = w / 2 ^ 23 % 2 ^ 20; write = w / 2 ^ 43 };
    }

-- each word is the number of the lock that it encodes
pub lock_number-lock_of : (w : ℕ) → lock_number (lock_of w) ≡ w
lock_number-lock_of w = omega (arith, bit_of w, bit_of (w / 2), bit_of (w / 4))
