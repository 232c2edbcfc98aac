use Rattle.std.proofs.Common.{◌≡◌, ◌∷◌, [], List, Some, sym, ap, subst, ◌∙◌, arith, length-append, rules}
use Rattle.std.proofs.lemmas.List.Sums.{sum_by-cons, sum_by_push}
use Rattle.std.specs.Prelude.{remove, slice_get}
use Rattle.nr_rev.proofs.LeadsBackLemmas.{LeadsBack-push}
use Rattle.nr_plain.specs.declared.edit.Edit.{Edit}
use Rattle.nr_plain.specs.Edit.{Undoes, edit_weight, undo_weight}
use Rattle.nr_plain.specs.Plan.{CanEditAll, after_edits}
use Rattle.nr_plain.proofs.world.PlainWorld.perform_all.Goals as goal

first_and_rest : (edits : List Edit) (edit : Edit) → slice_get edits 0 ≡ Some edit → edits ≡ edit ∷ remove edits 0
first_and_rest [] edit at = absurd cc
first_and_rest (x ∷ xs) edit at = cc

pub loop-edit-preserved : goal.loop-edit-preserved
loop-edit-preserved c =
    let w = c.loop-edit.self in
    let edit = c.in-Some.edit in
    let rest = c.pop_at.new.self.items in
    let split : c.loop-edit.edits.items ≡ edit ∷ rest = first_and_rest c.loop-edit.edits.items edit (sym c.in-Some.ensures.value) ∙ ap (λ es. edit ∷ es) (sym c.in-Some.ensures.items) in
    let after = c.perform.ensures.after in
    let can = subst (λ es. CanEditAll es w) split c.loop-edit.invariant.can in
    let words = sum_by_push undo_weight c.loop-edit.undos.items c.perform.result in
    let heavy = sum_by-cons edit_weight edit rest in
    let lengths = length-append c.loop-edit.undos.items (c.perform.result ∷ []) in
    let light = c.perform.ensures.light in
    record {
      leads = ap (after_edits rest) after ∙ ap (λ es. after_edits es w) (sym split) ∙ c.loop-edit.invariant.leads;
      can = rw after can.1;
      back = rw c.push.ensures.items (LeadsBack-push Undoes c.loop-edit.undos.items c.perform.result c.perform.new.self w c.args.self.now c.loop-edit.invariant.back c.perform.ensures.back);
      light = rw c.push.ensures.items (omega (arith, words, heavy, light, rw split at c.loop-edit.invariant.light));
      few = rw c.push.ensures.items (omega (arith, lengths, rw split at c.loop-edit.invariant.few));
    }

pub loop-edit-init : goal.loop-edit-init
loop-edit-init c = search rules
