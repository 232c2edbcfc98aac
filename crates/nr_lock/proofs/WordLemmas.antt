-- Each lock has exactly one word, its number.
use Rattle.std.proofs.Common.{◌≡◌, ℕ, ◌/◌, ◌%◌, ◌^◌, ◌<◌, ◌==◌, arith}
use Rattle.nr_rev.specs.declared.lock.Lock.{Lock}
use Rattle.nr_rev.specs.declared.sides.Side.TheVariants.{Read, Write}
use Rattle.nr_rev.specs.Lock.{lock_number}
use Rattle.nr_rev.specs.WellFormed.{LockFits}
use Rattle.nr_rev.proofs.BitLemmas.{bit_small, test_of}
use Rattle.nr_lock.specs.Word.{lock_of}

pub lock_of-lock_number : (lock : Lock) → LockFits lock → lock_of (lock_number lock) ≡ lock
lock_of-lock_number lock fits =
    let closed = bit_small lock.closed in
    let read = bit_small lock.locked.read in
    let write = bit_small lock.locked.write in
    let readers = fits.waiters Read in
    let references = fits.references in
    let n : ℕ = lock_number lock in
    let closed_is : (n % 2 == 1) ≡ lock.closed = test_of lock.closed (n % 2) (omega arith) in
    let read_is : (n / 2 % 2 == 1) ≡ lock.locked.read = test_of lock.locked.read (n / 2 % 2) (omega arith) in
    let write_is : (n / 4 % 2 == 1) ≡ lock.locked.write = test_of lock.locked.write (n / 4 % 2) (omega arith) in
    let references_are : n / 8 % 2 ^ 20 ≡ lock.references = omega arith in
    let readers_are : n / 2 ^ 23 % 2 ^ 20 ≡ lock.waiters.read = omega arith in
    let writers_are : n / 2 ^ 43 ≡ lock.waiters.write = omega arith in
    λ i. record {
      closed = closed_is i;
      locked = record { read = read_is i; write = write_is i };
      references = references_are i;
      waiters = record { read = readers_are i; write = writers_are i };
    }

pub lock_number-small : (lock : Lock) → LockFits lock → lock_number lock < 2 ^ 63
lock_number-small lock fits =
    let closed = bit_small lock.closed in
    let read = bit_small lock.locked.read in
    let write = bit_small lock.locked.write in
    let readers = fits.waiters Read in
    let writers = fits.waiters Write in
    let references = fits.references in
    omega arith
