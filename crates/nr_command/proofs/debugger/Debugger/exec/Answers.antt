use Rattle.nr_command.proofs.WithinLemmas.{exec-within}
use Rattle.nr_command.proofs.debugger.Debugger.exec.Goals as goal

pub returns-clause-within : goal.returns-clause-within
returns-clause-within g c =
    exec-within c.args.film.now.recording c.args.command c.args.self.now c.dispatch.new.self c.dispatch.result c.requires c.dispatch.ensures.ok c.dispatch.ensures.unchanged
