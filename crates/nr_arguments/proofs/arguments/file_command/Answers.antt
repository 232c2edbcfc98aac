use Rattle.std.proofs.Common.{rules}
use Rattle.nr_arguments.proofs.arguments.file_command.Goals as goal

pub returns-clause-app : goal.returns-clause-app
returns-clause-app c = search rules
