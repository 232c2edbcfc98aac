-- The number that represents a lock fits into a 64-bit word.
use Rattle.std.proofs.Common.{◌<◌, ◌^◌}
use Rattle.nr_rev.specs.declared.sides.Side.TheVariants.{Read, Write}
use Rattle.nr_rev.specs.declared.lock.Lock.{Lock}
use Rattle.nr_rev.specs.WellFormed.{LockFits}

pub read_waiters_small : (lock : Lock) → LockFits lock → lock.waiters.read < 2 ^ 20
read_waiters_small lock fits = fits.waiters Read

pub write_waiters_small : (lock : Lock) → LockFits lock → lock.waiters.write < 2 ^ 20
write_waiters_small lock fits = fits.waiters Write
