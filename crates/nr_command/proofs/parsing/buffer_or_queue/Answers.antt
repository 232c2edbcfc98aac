use Rattle.std.proofs.Common.{rules}
use Rattle.nr_command.proofs.parsing.buffer_or_queue.Goals as goal

pub returns-then-is : goal.returns-then-is
returns-then-is c = search rules
