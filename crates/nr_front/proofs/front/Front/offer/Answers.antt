use Rattle.std.proofs.Common.{◌∙◌, ap, refl, rules}
use Rattle.nr_front.specs.FrontState.{FrontState}
use Rattle.nr_front.proofs.FrontStateLemmas.{seen_at}
use Rattle.nr_front.proofs.StepsLemmas.{sees_word}
use Rattle.nr_front.proofs.front.Front.offer.Goals as goal

pub invariant_of-self-in-Lost : goal.invariant_of-self-in-Lost
invariant_of-self-in-Lost g c =
    let without_pending = ap (λ (d : FrontState). d.pending) c.self.view_is ∙ c.requires.without_pending in
    seen_at _ _ _ _ _ _ _ without_pending c.self.invariant.0 c.in-Lost.ensures.offered.0 c.in-Lost.ensures.offered.4 c.at-self-inside.ensures

pub returns-in-Lost : goal.returns-in-Lost
returns-in-Lost g c =
    let lost = c.in-Lost.ensures.offered in
    sees_word _ _ _ _ _ c.self.view_is c.requires.table (record { table = c.offer-offered.ensures.table; recording = refl; workers = refl; walker_state = refl }) lost.0 lost.3 lost.4 lost.1
    c.at-self-inside.ensures

pub returns-in-Placed : goal.returns-in-Placed
returns-in-Placed g c = search rules
