use Rattle.std.proofs.Common.{◌≡◌, ◌==◌, not, filter, sym, ap, subst, rules}
use Rattle.arrayvec.proofs.ArrayVecLemmas.{filter-from_retain}
use Rattle.nr_marks.specs.Numbered.{NumberedItems, without_item}
use Rattle.nr_marks.specs.Auxiliary.Numbered.{RisesWithin, numbers_of}
use Rattle.nr_marks.proofs.NumberedLemmas.{RisesWithin-filter, filter-others}
use Rattle.nr_marks.proofs.numbered.NumberedList.delete.Goals as goal

-- if no item has that number, nothing changes
pub returns-then-is_none-clause-list : goal.returns-then-is_none-clause-list
returns-then-is_none-clause-list g c =
    let table = c.args.self.now in
    ap (λ items. record table { present = items }) (sym (filter-others c.args.number table.present (search rules)))

-- the numbers of the other items are still in ascending order
pub invariant_of-self : goal.invariant_of-self
invariant_of-self g c =
    let others : c.retain.new.self.items ≡ filter (λ n. not (n.number == c.args.number)) c.self.inside.present.items =
    filter-from_retain _ _ _ (λ x b f' y called. search rules) _ _ c.retain.ensures.filtered in
    subst (λ items. RisesWithin 0 (numbers_of items) c.self.inside.made) (sym others)
    (RisesWithin-filter (λ n. not (n.number == c.args.number)) 0 c.self.inside.present.items c.self.inside.made c.self.invariant)

pub returns-clause-list : goal.returns-clause-list
returns-clause-list g c =
    let made = c.self.inside.made in
    let others : c.retain.new.self.items ≡ filter (λ n. not (n.number == c.args.number)) c.self.inside.present.items =
    filter-from_retain _ _ _ (λ x b f' y called. search rules) _ _ c.retain.ensures.filtered in
    subst (λ (table : NumberedItems _). record { present = c.retain.new.self.items; made = made } ≡ without_item c.args.number table) c.self.view_is
    (ap (λ items. record { present = items; made = made }) others)

pub returns-then-is_none-clause-was_present : goal.returns-then-is_none-clause-was_present
returns-then-is_none-clause-was_present g c = search rules
