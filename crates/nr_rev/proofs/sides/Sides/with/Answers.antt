use Rattle.std.proofs.Common.{rules}
use Rattle.nr_rev.proofs.sides.Sides.with.Goals as goal

pub returns-in-Write : goal.returns-in-Write
returns-in-Write g c = search rules

pub returns-in-Read : goal.returns-in-Read
returns-in-Read g c = search rules
