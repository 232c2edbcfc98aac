use Rattle.std.proofs.Common.{rules}
use Rattle.nr_lock.proofs.word.LockWord.with_waiter.Goals as goal

pub returns-in-Write : goal.returns-in-Write
returns-in-Write c = search rules
