use Rattle.std.proofs.Common.{rules}
use Rattle.nr_plain.proofs.change.PlainChange.unblock_expired.Goals as goal

pub returns-else-is_expired-2 : goal.returns-else-is_expired-2
returns-else-is_expired-2 c = search rules
