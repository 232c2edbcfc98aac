use Rattle.std.proofs.Common.{arith, sym}
use Rattle.nr_command.proofs.WordLemmas.{no_kind}
use Rattle.nr_command.proofs.word.kind_numbered.Goals as goal

pub returns-in-Err : goal.returns-in-Err
returns-in-Err c = sym (no_kind c.args.number (omega arith))
