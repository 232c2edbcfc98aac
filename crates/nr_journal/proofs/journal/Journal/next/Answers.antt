use Rattle.std.proofs.Common.{◌≡◌, ◌≢◌, ◌<◌, sym, ap, ◌∙◌, subst, inl, arith}
use Rattle.atomic_table.specs.Seated.{TableId}
use Rattle.nr_journal.specs.Rule.{StartsWith, tag_of}
use Rattle.nr_journal.specs.Auxiliary.Rule.{looked, having_seen}
use Rattle.nr_journal.specs.Step.{Seat, LookedFrom}
use Rattle.nr_journal.specs.Pass.{Entered}
use Rattle.nr_journal.proofs.LookLemmas.{looks}
use Rattle.nr_journal.proofs.PassLemmas.{seated, knows_as, one_more}
use Rattle.nr_journal.proofs.journal.Journal.next.Goals as goal

pub load-found-requires : goal.load-found-requires
load-found-requires c =
    let p = c.pass.invariant in
    let j = c.self.invariant in
    let same : c.pass.inside.seat.table_id ≡ c.self.inside.table.shared.table_id = ap (λ (f : Entered). f.table) c.pass.view_is ∙ (c.requires ∙ sym c.self.view_is) in (
      same,
      omega (arith, j.1, c.if-pass-self.false),
      looks _ _ _ _ _ _ p.0 (omega (arith, p.1)),
    )

pub invariant_of-pass : goal.invariant_of-pass
invariant_of-pass c =
    let p = c.pass.invariant in
    let l = c.load-found.ensures in
    let learned = subst (λ (m : Seat). LookedFrom m.0 c.load-found.result c.load-found.new.seat.me) p.0 l.2 in
    let is = (learned.0 c.if-found-eq0.true).0 in
    seated _ _ _ _ _ is p.1 p.2 (subst (λ (z : TableId). c.pass.inside.place < z.words) (sym l.0) p.3)

pub returns-then-found-eq0-clause-none : goal.returns-then-found-eq0-clause-none
returns-then-found-eq0-clause-none c =
    let p = c.pass.invariant in
    let learned = subst (λ (m : Seat). LookedFrom m.0 c.load-found.result c.load-found.new.seat.me) p.0 c.load-found.ensures.2 in
    let is = (learned.0 c.if-found-eq0.true).0 in
    inl (
      knows_as _ _ is ∙ ap (λ (f : Entered). looked f.pass_state) c.pass.view_is,
      subst (λ (f : Entered). StartsWith f.pass_state.seen f.pass_state.learned) c.pass.view_is
          (learned.0 c.if-found-eq0.true).1,
    )

pub invariant_of-pass-2 : goal.invariant_of-pass-2
invariant_of-pass-2 c =
    let p = c.pass.invariant in
    let l = c.load-found.ensures in
    let learned = subst (λ (m : Seat). LookedFrom m.0 c.load-found.result c.load-found.new.seat.me) p.0 l.2 in
    let is = (learned.1 c.if-found-eq0.false).0 in
    let same : c.pass.inside.seat.table_id ≡ c.self.inside.table.shared.table_id = ap (λ (f : Entered). f.table) c.pass.view_is ∙ (c.requires ∙ sym c.self.view_is) in
    let words : c.load-found.new.seat.table_id.words ≡ c.self.inside.table.shared.table_id.words = ap (λ (z : TableId). z.words) (l.0 ∙ same) in
    seated _ _ _ _ _ is (one_more _ _ _ p.1) p.2 (omega (arith, words, c.self.invariant.1, c.if-pass-self.false))

pub returns-clause-some : goal.returns-clause-some
returns-clause-some c =
    let p = c.pass.invariant in
    let learned = subst (λ (m : Seat). LookedFrom m.0 c.load-found.result c.load-found.new.seat.me) p.0 c.load-found.ensures.2 in
    let found = learned.1 c.if-found-eq0.false in
    assumption (
      knows_as _ _ found.0 ∙ ap (λ (f : Entered). having_seen f.pass_state c.load-found.result) c.pass.view_is,
      found.1,
      subst (λ (f : Entered). tag_of c.load-found.result ≢ f.pass_state.tag) c.pass.view_is found.2,
      subst (λ (f : Entered). f.pass_state.passes ≢ 1) c.pass.view_is found.3,
    )
