use Rattle.std.proofs.Common.{rules}
use Rattle.nr_rev.proofs.limits.Limits.are_in_range.Goals as goal

pub returns-then-is_limit-3-clause-value : goal.returns-then-is_limit-3-clause-value
returns-then-is_limit-3-clause-value c = search rules
