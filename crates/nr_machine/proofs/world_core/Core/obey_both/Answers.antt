use Rattle.std.proofs.Common.{sym, subst}
use Rattle.nr_machine.specs.Auxiliary.Changing.{IfAny, TimersBack}
use Rattle.nr_machine.specs.declared.world_core.Core.{Core}
use Rattle.nr_machine.proofs.ObeyLemmas.{second_refused, timers_again}
use Rattle.nr_machine.proofs.world_core.Core.obey_both.Goals as goal

pub returns-in-Err-clause-err : goal.returns-in-Err-clause-err
returns-in-Err-clause-err c =
    second_refused c.args.descriptor c.args.orders.read c.args.orders.write c.args.self.now c.obey_one.new.self c.in-Err.refusal
    c.in_ok-obey_one.ensures.obeyed c.in-Err.ensures.err

pub returns-in-Err-clause-unchanged : goal.returns-in-Err-clause-unchanged
returns-in-Err-clause-unchanged c =
    timers_again c.obey_one.new.delta c.obey_one-2.new.self c.unorder.new.self c.args.self.now c.unorder.ensures
    (subst (λ (core : Core). IfAny TimersBack c.obey_one.new.delta core c.args.self.now) (sym c.in-Err.ensures.unchanged) c.in_ok-obey_one.ensures.back)
