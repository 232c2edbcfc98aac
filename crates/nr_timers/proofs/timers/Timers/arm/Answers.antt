use Rattle.std.proofs.Common.{◌≡◌, ◌+◌, ◌-◌, ◌^◌, ◌<◌, sym, ◌∙◌, subst, arith, rules, w64, to_z, of_z}
use Rattle.std.proofs.lemmas.Grind.{common_steps}
use Rattle.nr_timers.specs.declared.op.TimersOp.TheVariants.{Arm}
use Rattle.nr_timers.specs.State.{State, IsTimers}
use Rattle.nr_timers.specs.Performing.{Applies}
use Rattle.nr_timers.proofs.PerformLemmas.{arming, arming_absent, arming_fits}
use Rattle.nr_timers.proofs.timers.Timers.arm.Goals as goal

pub insert-to-requires-clause-key : goal.insert-to-requires-clause-key
insert-to-requires-clause-key c =
    let view : State = record { entries = c.self.inside.heap.entries; firings = c.self.inside.firings.items; next = c.self.inside.next; descriptors = c.self.inside.descriptors } in
    let well : IsTimers view = subst IsTimers (sym c.self.view_is) c.requires in
    let time : to_z w64 (of_z w64 c.args.due) ≡ c.args.due = search rules in
    arming_fits view well c.args.descriptor c.args.side c.args.due c.args.function c.args.sequence c.if-descriptor-self.false (to_z w64 (of_z w64 c.args.due)) time c.key.result c.key.ensures
    c.clear-gone.result c.clear-gone.new.self.entries c.clear-gone.ensures.cleared c.clear-gone.ensures.back
    c.clear-gone.new.self.limit (c.clear-gone.ensures.limit ∙ c.self.invariant.0)

pub insert-to-requires-clause-absent : goal.insert-to-requires-clause-absent
insert-to-requires-clause-absent c =
    let view : State = record { entries = c.self.inside.heap.entries; firings = c.self.inside.firings.items; next = c.self.inside.next; descriptors = c.self.inside.descriptors } in
    let well : IsTimers view = subst IsTimers (sym c.self.view_is) c.requires in
    let time : to_z w64 (of_z w64 c.args.due) ≡ c.args.due = search rules in
    arming_absent view well c.args.descriptor c.args.side c.args.due c.args.function c.args.sequence c.if-descriptor-self.false (to_z w64 (of_z w64 c.args.due)) time c.key.result c.key.ensures
    c.clear-gone.result c.clear-gone.new.self.entries c.clear-gone.ensures.cleared c.clear-gone.ensures.back

pub returns : goal.returns
returns c =
    let view : State = record { entries = c.self.inside.heap.entries; firings = c.self.inside.firings.items; next = c.self.inside.next; descriptors = c.self.inside.descriptors } in
    let well : IsTimers view = subst IsTimers (sym c.self.view_is) c.requires in
    let time : to_z w64 (of_z w64 c.args.due) ≡ c.args.due = search rules in
    let room : view.next < 2 ^ 64 - 1 = grind (arith, common_steps) in
    subst (λ (v : State). Applies v (Arm c.args.descriptor c.args.side c.args.due c.args.function c.args.sequence) c.of_arming.result
    (record view { entries = c.insert-to.new.self.entries; next = view.next + 1 })) c.self.view_is
    (
    arming view well c.args.descriptor c.args.side c.args.due c.args.function c.args.sequence c.if-descriptor-self.false (to_z w64 (of_z w64 c.args.due)) time c.key.result c.key.ensures
    c.clear-gone.result c.clear-gone.new.self.entries c.clear-gone.ensures.cleared c.clear-gone.ensures.back
    c.insert-to.new.self.entries c.insert-to.result c.insert-to.ensures.inserted c.insert-to.ensures.back room (c.insert-to.ensures.ordered (c.clear-gone.ensures.ordered well.ordered))
    c.of_arming.result c.of_arming.ensures
    )
