use Rattle.std.proofs.Common.{rules}
use Rattle.nr_recording.proofs.header.limits.Goals as goal

pub returns : goal.returns
unfolding Rattle.nr_recording.specs.Header.limits_of
returns c = search rules
