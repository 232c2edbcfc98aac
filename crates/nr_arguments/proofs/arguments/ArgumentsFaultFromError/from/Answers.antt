use Rattle.std.proofs.Common.{rules}
use Rattle.nr_arguments.proofs.arguments.ArgumentsFaultFromError.from.Goals as goal

pub returns : goal.returns
returns c = search rules
