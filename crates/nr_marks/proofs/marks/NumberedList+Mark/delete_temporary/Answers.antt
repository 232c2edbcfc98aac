use Rattle.std.proofs.Common.{◌≡◌, Bool, not, filter, sym, ap, subst, rules}
use Rattle.arrayvec.proofs.ArrayVecLemmas.{filter-from_retain}
use Rattle.nr_marks.specs.Marks.{MarkList, NumberedMark, after_stop, goes}
use Rattle.nr_marks.specs.Auxiliary.Numbered.{RisesWithin, numbers_of}
use Rattle.nr_marks.proofs.NumberedLemmas.{RisesWithin-filter}
use Rattle.nr_marks.proofs.marks.NumberedList+Mark.delete_temporary.Goals as goal

-- the numbers of the remaining marks are still in ascending order
pub invariant_of-self : goal.invariant_of-self
invariant_of-self c =
    let stays : NumberedMark → Bool = λ m. not (goes c.args.hits.now m) in
    let kept : c.retain.new.self.items ≡ filter stays c.self.inside.present.items =
    filter-from_retain _ stays _ (λ m b f' n called. search rules) _ _ c.retain.ensures.filtered in
    subst (λ ms. RisesWithin 0 (numbers_of ms) c.self.inside.made) (sym kept)
    (RisesWithin-filter stays 0 c.self.inside.present.items c.self.inside.made c.self.invariant)

pub returns : goal.returns
returns c =
    let stays : NumberedMark → Bool = λ m. not (goes c.args.hits.now m) in
    let kept : c.retain.new.self.items ≡ filter stays c.self.inside.present.items =
    filter-from_retain _ stays _ (λ m b f' n called. search rules) _ _ c.retain.ensures.filtered in
    subst (λ (marks : MarkList). record { present = c.retain.new.self.items; made = c.self.inside.made } ≡ after_stop c.args.hits.now marks) c.self.view_is
    (ap (λ ms. record { present = ms; made = c.self.inside.made }) kept)
