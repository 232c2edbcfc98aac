use Rattle.std.proofs.Common.{rules}
use Rattle.nr_lock.proofs.word.LockWord.rw_unlock.Goals as goal

pub returns : goal.returns
returns c = search rules
