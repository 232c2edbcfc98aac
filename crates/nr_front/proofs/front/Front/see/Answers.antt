use Rattle.std.proofs.Common.{◌∙◌, ap, refl}
use Rattle.nr_front.specs.FrontState.{FrontState}
use Rattle.nr_front.proofs.FrontStateLemmas.{seen_at}
use Rattle.nr_front.proofs.StepsLemmas.{sees_word}
use Rattle.nr_front.proofs.front.Front.see.Goals as goal

pub invariant_of-self : goal.invariant_of-self
invariant_of-self g c =
    let without_pending = ap (λ (d : FrontState). d.pending) c.self.view_is ∙ c.requires.without_pending in
    seen_at _ _ _ _ _ _ _ without_pending c.self.invariant.0 c.in-Some.ensures.some.0 c.in-Some.ensures.some.3 c.at-self-inside.ensures

pub returns-in-Some : goal.returns-in-Some
returns-in-Some g c = (
  c.in-Some.word,
  sees_word _ _ _ _ _ c.self.view_is c.requires.table (record { table = c.next.ensures.table; recording = refl; workers = refl; walker_state = refl })
      c.in-Some.ensures.some.0 c.in-Some.ensures.some.2 c.in-Some.ensures.some.3 c.in-Some.ensures.room c.at-self-inside.ensures,
)
