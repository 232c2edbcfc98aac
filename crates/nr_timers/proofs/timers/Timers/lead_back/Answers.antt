use Rattle.std.proofs.Common.{◌≡◌, ◌-◌, List, refl, sym, ap, ◌∙◌, subst}
use Rattle.std.proofs.Common.{Some}
use Rattle.nr_rev.specs.declared.timer.Entry.{Entry}
use Rattle.nr_timers.specs.Index.{Keyed}
use Rattle.nr_timers.specs.Auxiliary.Change.{RemovedBack}
use Rattle.nr_timers.specs.declared.delta.TimersUndo.{TimersUndo}
use Rattle.nr_timers.specs.State.{State}
use Rattle.nr_timers.specs.Back.{UndoBack}
use Rattle.nr_rev.specs.RoomedList.{Roomed}
use Rattle.std.specs.Prelude.{slice_get, remove}
use Rattle.nr_timers.proofs.UndoLemmas.{last_is, last_removed, armed_undone, rearmed_undone, stopped_undone, popped_undone, rearmed_needs}
use Rattle.nr_timers.proofs.timers.Timers.lead_back.Goals as goal

pub returns-in-Armed : goal.returns-in-Armed
returns-in-Armed c =
    let view : State = record { entries = c.self.inside.heap.entries; firings = c.self.inside.firings.items; next = c.self.inside.next; descriptors = c.self.inside.descriptors } in
    let new : State = record { entries = c.uninsert.new.self.entries; firings = c.self.inside.firings.items; next = c.self.inside.next - 1; descriptors = c.self.inside.descriptors } in
    subst (λ (v : State). UndoBack c.args.undo v new) c.self.view_is
    (
    subst (λ (d : TimersUndo). UndoBack d view new) (sym c.in-Armed.is)
    (
    armed_undone view new refl c.in-Armed.to c.uninsert.ensures.back refl refl
    (subst (λ (d : TimersUndo). (old : State) × UndoBack d view old) c.in-Armed.is (subst (λ (v : State). (old : State) × UndoBack c.args.undo v old) (sym c.self.view_is) c.requires))
    )
    )

pub unremove-requires : goal.unremove-requires
unremove-requires c =
    let view : State = record { entries = c.self.inside.heap.entries; firings = c.self.inside.firings.items; next = c.self.inside.next; descriptors = c.self.inside.descriptors } in
    subst (λ (x : Entry). (old : List Entry) × RemovedBack c.in-Rearmed.place c.in-Rearmed.last x c.uninsert-armed.new.self.entries old × Keyed old c.uninsert-armed.new.self.limit)
    (sym (ap (λ (x : Entry). record x { timer = c.in-Rearmed.timer }) c.uninsert-armed.ensures.entry))
    (
    rearmed_needs view c.in-Rearmed.to c.in-Rearmed.place c.in-Rearmed.last c.uninsert-armed.new.self.limit c.in-Rearmed.timer c.uninsert-armed.new.self.entries c.uninsert-armed.ensures.back
    (c.uninsert-armed.ensures.limit ∙ c.self.invariant.0)
    (subst (λ (d : TimersUndo). (old : State) × UndoBack d view old) c.in-Rearmed.is (subst (λ (v : State). (old : State) × UndoBack c.args.undo v old) (sym c.self.view_is) c.requires))
    )

pub returns-in-Rearmed : goal.returns-in-Rearmed
returns-in-Rearmed c =
    let view : State = record { entries = c.self.inside.heap.entries; firings = c.self.inside.firings.items; next = c.self.inside.next; descriptors = c.self.inside.descriptors } in
    let new : State = record { entries = c.unremove.new.self.entries; firings = c.self.inside.firings.items; next = c.self.inside.next - 1; descriptors = c.self.inside.descriptors } in
    subst (λ (v : State). UndoBack c.args.undo v new) c.self.view_is
    (
    subst (λ (d : TimersUndo). UndoBack d view new) (sym c.in-Rearmed.is)
    (
    rearmed_undone view new refl c.in-Rearmed.to c.in-Rearmed.place c.in-Rearmed.last c.in-Rearmed.timer c.uninsert-armed.new.self.entries c.uninsert-armed.ensures.back
    (subst (λ (x : Entry). RemovedBack c.in-Rearmed.place c.in-Rearmed.last x c.uninsert-armed.new.self.entries c.unremove.new.self.entries)
    (ap (λ (x : Entry). record x { timer = c.in-Rearmed.timer }) c.uninsert-armed.ensures.entry) c.unremove.ensures.back)
    refl refl
    (subst (λ (d : TimersUndo). (old : State) × UndoBack d view old) c.in-Rearmed.is (subst (λ (v : State). (old : State) × UndoBack c.args.undo v old) (sym c.self.view_is) c.requires))
    )
    )

pub returns-in-Stopped : goal.returns-in-Stopped
returns-in-Stopped c =
    let view : State = record { entries = c.self.inside.heap.entries; firings = c.self.inside.firings.items; next = c.self.inside.next; descriptors = c.self.inside.descriptors } in
    let new : State = record { entries = c.unremove-in-Stopped.new.self.entries; firings = c.self.inside.firings.items; next = c.self.inside.next; descriptors = c.self.inside.descriptors } in
    subst (λ (v : State). UndoBack c.args.undo v new) c.self.view_is
    (
    subst (λ (d : TimersUndo). UndoBack d view new) (sym c.in-Stopped.is)
    (
    stopped_undone view new refl c.in-Stopped.place c.in-Stopped.last c.in-Stopped.entry c.unremove-in-Stopped.ensures.back refl refl
    (subst (λ (d : TimersUndo). (old : State) × UndoBack d view old) c.in-Stopped.is (subst (λ (v : State). (old : State) × UndoBack c.args.undo v old) (sym c.self.view_is) c.requires))
    )
    )

pub returns-in-Popped : goal.returns-in-Popped
returns-in-Popped c =
    let view : State = record { entries = c.self.inside.heap.entries; firings = c.self.inside.firings.items; next = c.self.inside.next; descriptors = c.self.inside.descriptors } in
    let new : State = record { entries = c.unremove-in-Popped.new.self.entries; firings = c.remove-entry.new.self.items; next = c.self.inside.next; descriptors = c.self.inside.descriptors } in
    subst (λ (v : State). UndoBack c.args.undo v new) c.self.view_is
    (
    subst (λ (d : TimersUndo). UndoBack d view new) (sym c.in-Popped.is)
    (
    popped_undone view new refl c.in-Popped.last c.remove-entry.result (last_is view.firings c.remove-entry.result
    (subst (λ n. slice_get view.firings (n - 1) ≡ Some c.remove-entry.result) c.len.ensures.len c.remove-entry.ensures.item)) c.unremove-in-Popped.ensures.back
    (ap (λ (r : Roomed Entry). r.items) c.remove-entry.ensures.rest ∙ ap (λ n. remove view.firings (n - 1)) c.len.ensures.len ∙ last_removed view.firings) refl
    (subst (λ (d : TimersUndo). (old : State) × UndoBack d view old) c.in-Popped.is (subst (λ (v : State). (old : State) × UndoBack c.args.undo v old) (sym c.self.view_is) c.requires))
    )
    )
