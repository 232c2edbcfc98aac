use Rattle.std.proofs.Common.{subst}
use Rattle.nr_programs.specs.Run.{EndsPrinting, accepted_line}
use Rattle.nr_programs.specs.declared.run.ExitStatus.TheVariants as statuses
use Rattle.nr_programs.proofs.run.accept.Goals as goal

pub returns : goal.returns
returns g c = subst (λ n. EndsPrinting (accepted_line n) statuses.Done c.args.output.now c.print.new.output c.print.result) c.len.ensures.is c.print.ensures
