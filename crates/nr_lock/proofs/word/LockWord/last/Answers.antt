use Rattle.std.proofs.Common.{rules}
use Rattle.nr_lock.proofs.word.LockWord.last.Goals as goal

pub returns-then-references-eq0 : goal.returns-then-references-eq0
returns-then-references-eq0 c = search rules
