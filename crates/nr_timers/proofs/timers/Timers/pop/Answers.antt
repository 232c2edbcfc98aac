use Rattle.std.proofs.Common.{◌≡◌, true, Some, sym, ap, ◌∙◌, subst, arith}
use Rattle.std.specs.Prelude.{int_le, slice_get}
use Rattle.std.proofs.lemmas.Int.{ints}
use Rattle.std.proofs.lemmas.Grind.{common_steps}
use Rattle.nr_rev.specs.declared.timer.Entry.{Entry}
use Rattle.nr_rev.specs.RoomedList.{Roomed}
use Rattle.nr_timers.specs.declared.delta.TimersUndo.TheVariants.{Popped}
use Rattle.nr_timers.specs.declared.op.TimersOp.TheVariants.{Pop}
use Rattle.nr_timers.specs.State.{State, IsTimers}
use Rattle.nr_timers.specs.Performing.{Applies}
use Rattle.nr_timers.proofs.StepLemmas.{some, least_is}
use Rattle.nr_timers.proofs.PerformLemmas.{popping}
use Rattle.nr_timers.proofs.timers.Timers.pop.Goals as goal

pub returns : goal.returns
returns c =
    let view : State = record { entries = c.self.inside.heap.entries; firings = c.self.inside.firings.items; next = c.self.inside.next; descriptors = c.self.inside.descriptors } in
    let well : IsTimers view = subst IsTimers (sym c.self.view_is) c.requires in
    let is : slice_get view.entries 0 ≡ Some c.in-Some.least = sym c.get.ensures ∙ c.in-Some.is in
    let due : int_le c.in-Some.least.timer.due c.args.now ≡ true = grind (arith, ints) in
    let due_first = ap (λ (x : Entry). int_le x.timer.due c.args.now) (least_is view c.in-Some.least c.args.now is) ∙ due in
    subst (λ (v : State). Applies v (Pop c.args.now) (Popped c.remove-last.result.1) (record view { entries = c.remove-last.new.self.entries; firings = c.push.new.self.items })) c.self.view_is
    (
    popping view well c.args.now (some view c.in-Some.least c.args.now is) due_first (grind (arith, common_steps)) c.remove-last.result.1 c.remove-last.result.0 c.remove-last.new.self.entries
    c.push.new.self.items
    c.remove-last.ensures.entry (ap (λ (r : Roomed Entry). r.items) c.push.ensures) c.remove-last.ensures.removed c.remove-last.ensures.back (c.remove-last.ensures.ordered well.ordered)
    )
