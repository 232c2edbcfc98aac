use Rattle.std.proofs.Common.{rules}
use Rattle.nr_command.proofs.reply.checkpoint_fault.Goals as goal

pub returns-in-NoSuchCheckpoint : goal.returns-in-NoSuchCheckpoint
returns-in-NoSuchCheckpoint c = search rules
