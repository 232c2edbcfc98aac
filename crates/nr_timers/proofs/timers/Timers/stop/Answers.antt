use Rattle.std.proofs.Common.{sym, subst}
use Rattle.nr_timers.specs.declared.op.TimersOp.TheVariants.{Stop}
use Rattle.nr_timers.specs.State.{State, IsTimers}
use Rattle.nr_timers.specs.Performing.{Applies}
use Rattle.nr_timers.proofs.PerformLemmas.{stopping}
use Rattle.nr_timers.proofs.timers.Timers.stop.Goals as goal

pub returns : goal.returns
returns c =
    let view : State = record { entries = c.self.inside.heap.entries; firings = c.self.inside.firings.items; next = c.self.inside.next; descriptors = c.self.inside.descriptors } in
    let well : IsTimers view = subst IsTimers (sym c.self.view_is) c.requires in
    subst (λ (v : State). Applies v (Stop c.args.descriptor c.args.side) c.of_stop.result (record view { entries = c.clear-gone.new.self.entries })) c.self.view_is
    (
    stopping view well c.args.descriptor c.args.side c.if-descriptor-self.false c.key_of.result c.key_of.ensures c.clear-gone.result c.clear-gone.new.self.entries c.clear-gone.ensures.cleared
    c.clear-gone.ensures.back
    (c.clear-gone.ensures.ordered well.ordered) c.of_stop.result c.of_stop.ensures
    )
