use Rattle.std.proofs.Common.{rules}
use Rattle.netrev.proofs.starting.Unstarted.of_kind.Goals as goal

pub returns-in_default : goal.returns-in_default
returns-in_default c = search rules
