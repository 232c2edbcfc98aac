use Rattle.std.proofs.Common.{◌≡◌, sym, ap, ◌∙◌, arith, rules}
use Rattle.nr_journal.specs.Pass.{Entered}
use Rattle.nr_journal.proofs.OfferLemmas.{offers}
use Rattle.nr_journal.proofs.journal.Journal.offer.Goals as goal

pub compare_exchange-found-requires : goal.compare_exchange-found-requires
compare_exchange-found-requires c =
    let p = c.pass.invariant in
    let j = c.self.invariant in
    let same : c.pass.inside.seat.table_id ≡ c.self.inside.table.shared.table_id = ap (λ (f : Entered). f.table) c.pass.view_is ∙ (c.requires.table ∙ sym c.self.view_is) in (
      same,
      omega (arith, j.1, c.if-pass-self.false),
      offers _ _ _ _ _ _ _ p.0 (omega (arith, p.1)) (omega (arith, p.1, j.0, c.if-pass-self.false)) c.requires.word.0
          (c.requires.word.1 ∙ ap (λ (f : Entered). f.pass_state.tag) (sym c.pass.view_is)),
    )

pub returns-clause-offered : goal.returns-clause-offered
returns-clause-offered c = search rules

pub returns-then-pass-self-clause-offered : goal.returns-then-pass-self-clause-offered
returns-then-pass-self-clause-offered c = search rules
