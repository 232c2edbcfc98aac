use Rattle.std.proofs.Common.{rules}
use Rattle.nr_rev.proofs.cell.Cell.aspect.Goals as goal

pub returns-in-Input : goal.returns-in-Input
returns-in-Input c = search rules
