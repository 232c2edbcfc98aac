use Rattle.std.proofs.Common.{rules}
use Rattle.nr_desc.proofs.desc.Desc.closed.Goals as goal

pub returns : goal.returns
returns c = search rules

pub returns-in_err-fdseq : goal.returns-in_err-fdseq
returns-in_err-fdseq c = search rules
