use Rattle.std.proofs.Common.{rules}
use Rattle.nr_rev.proofs.kept.KeptBytes.copy_of.Goals as goal

pub loop-byte-init : goal.loop-byte-init
loop-byte-init c = search rules
