use Rattle.std.proofs.Common.{◌+◌, refl, sym, subst}
use Rattle.nr_marks.specs.Auxiliary.Numbered.{RisesWithin, numbers_of}
use Rattle.nr_marks.specs.declared.numbered.Numbered.{Numbered}
use Rattle.nr_marks.proofs.NumberedLemmas.{RisesWithin-push}
use Rattle.nr_marks.proofs.numbered.NumberedList.make.Goals as goal

-- the next number is above all others
pub invariant_of-self : goal.invariant_of-self
invariant_of-self g c =
    let last : Numbered _ = record { number = c.self.inside.made + 1; item = c.args.item } in
    subst (λ items. RisesWithin 0 (numbers_of items) (c.self.inside.made + 1)) (sym c.push.ensures.items)
    (RisesWithin-push 0 c.self.inside.present.items last c.self.inside.made refl c.self.invariant)
