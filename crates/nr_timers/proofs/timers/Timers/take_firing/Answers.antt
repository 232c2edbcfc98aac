use Rattle.std.proofs.Common.{ap, subst, sym}
use Rattle.nr_rev.specs.RoomedList.{Roomed}
use Rattle.nr_rev.specs.declared.timer.Entry.{Entry}
use Rattle.nr_timers.specs.declared.delta.TimersUndo.TheVariants.{Taken}
use Rattle.nr_timers.specs.declared.op.TimersOp.TheVariants.{TakeFiring}
use Rattle.nr_timers.specs.Performing.{Applies}
use Rattle.nr_timers.specs.State.{State, IsTimers}
use Rattle.nr_timers.proofs.PerformLemmas.{taking}
use Rattle.nr_timers.proofs.timers.Timers.take_firing.Goals as goal

pub returns : goal.returns
returns c =
    let view : State = record { entries = c.self.inside.heap.entries; firings = c.self.inside.firings.items; next = c.self.inside.next; descriptors = c.self.inside.descriptors } in
    let well : IsTimers view = subst IsTimers (sym c.self.view_is) c.requires in
    subst (λ (v : State). Applies v (TakeFiring c.args.place) (Taken c.args.place c.remove-entry.result) (record view { firings = c.remove-entry.new.self.items })) c.self.view_is
    (taking view c.args.place c.remove-entry.result c.remove-entry.new.self.items well c.remove-entry.ensures.item (ap (λ (r : Roomed Entry). r.items) c.remove-entry.ensures.rest))
