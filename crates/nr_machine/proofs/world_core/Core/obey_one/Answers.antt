use Rattle.std.proofs.Common.{subst}
use Rattle.std.proofs.lemmas.Result.{err_from_is_err_and}
use Rattle.nr_rev.specs.Reversible.{Refuses}
use Rattle.nr_timers.specs.Auxiliary.Step.{TakesMemory, timers_reason}
use Rattle.nr_timers.specs.declared.op.TimersOp.{TimersOp}
use Rattle.nr_machine.proofs.ObeyLemmas.{order_refused}
use Rattle.nr_machine.proofs.world_core.Core.obey_one.Goals as goal

pub returns-in_err-made-clause-err : goal.returns-in_err-made-clause-err
returns-in_err-made-clause-err c =
    let p = err_from_is_err_and c.from_residual.result c.from_residual.ensures.1 in
    rw (p.1, p.2, c.in-Some.is)
    (order_refused c.args.descriptor c.args.self.now.timers c.in-Some.order c.in_err-made.field-0.0 c.requires.below
    (subst (λ (op : TimersOp). Refuses timers_reason TakesMemory c.args.self.now.timers op c.in_err-made.field-0.0) c.ordered.ensures c.in_err-made.ensures.refusal))
