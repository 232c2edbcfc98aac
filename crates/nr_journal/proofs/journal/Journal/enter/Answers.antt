use Rattle.std.proofs.Common.{◌≡◌, ℕ, [], refl, sym, ap, ◌∙◌, subst, arith}
use Rattle.std.proofs.lemmas.Nat.{one_shl}
use Rattle.atomic_table.specs.Seated.{TableId}
use Rattle.nr_journal.specs.declared.view.View.TheVariants.{Outside}
use Rattle.nr_journal.specs.Auxiliary.Rule.{entering}
use Rattle.nr_journal.specs.Step.{Seat, DrawsFrom}
use Rattle.nr_journal.specs.Pass.{pass_state_of}
use Rattle.nr_journal.specs.Seat.{Waiting, passes_of, tried_of}
use Rattle.nr_journal.proofs.DrawLemmas.{draws}
use Rattle.nr_journal.proofs.PassLemmas.{seated, knows_as}
use Rattle.nr_journal.proofs.journal.Journal.enter.Goals as goal

both : {a b m n : ℕ} → a ≡ b → m ≡ n → ◌≡◌ {A = Seat} (Outside a m, []) (Outside b n, [])
both is most = cc

pub loop-tried-init : goal.loop-tried-init
loop-tried-init c =
    let i = c.seat.invariant in
    let same : c.seat.inside.tried ≡ c.args.seat.tried = i.1 ∙ ap (λ (w : Waiting). w.tried) c.seat.view_is in (
      i.0 ∙ both (sym i.1) (sym i.2),
      ap (λ (w : Waiting). w.table) c.seat.view_is,
      i.3,
      omega (arith, same),
      i.2 ∙ ap (λ (w : Waiting). w.passes) c.seat.view_is,
      i.4,
    )

pub fetch_or-found-requires : goal.fetch_or-found-requires
fetch_or-found-requires c =
    let l = c.loop-tried.invariant in (
      l.1 ∙ (c.requires ∙ sym c.self.view_is),
      omega (arith, c.self.invariant.1),
      draws _ _ _ _ _ _ _ c.loop-tried-test.true l.0 (let bit = one_shl c.loop-tried.tried 64 (omega (arith, c.loop-tried-test.true, l.5)) in omega (arith, bit)),
    )

pub invariant_of-result : goal.invariant_of-result
invariant_of-result c =
    let l = c.loop-tried.invariant in
    let f = c.fetch_or-found.ensures in
    let learned = subst (λ (m : Seat). DrawsFrom m.0 c.fetch_or-found.result c.fetch_or-found.new.seat.me) l.0 f.2 in
    let is = learned.0 c.if-found-tried-eq0.true in
    let words : c.fetch_or-found.new.seat.table_id.words ≡ c.self.inside.table.shared.table_id.words = ap (λ (z : TableId). z.words) (f.0 ∙ (l.1 ∙ (c.requires ∙ sym c.self.view_is))) in
    seated _ _ _ _ _ is refl refl (omega (arith, words, c.self.invariant.1))

pub returns-then-found-tried-eq0-clause-ok : goal.returns-then-found-tried-eq0-clause-ok
returns-then-found-tried-eq0-clause-ok c =
    let l = c.loop-tried.invariant in
    let f = c.fetch_or-found.ensures in
    let learned = subst (λ (m : Seat). DrawsFrom m.0 c.fetch_or-found.result c.fetch_or-found.new.seat.me) l.0 f.2 in
    let is = knows_as _ _ (learned.0 c.if-found-tried-eq0.true) in
    let tag : (pass_state_of c.fetch_or-found.new.seat.me.0).tag ≡ c.loop-tried.tried = ap (λ s. s.tag) is in (
      f.0 ∙ l.1,
      is ∙ (ap (λ (n : ℕ). entering n c.loop-tried.tried) l.4 ∙ ap (entering c.args.seat.passes) (sym tag)),
      omega (arith, tag, l.3),
      omega (arith, tag, c.loop-tried-test.true, l.4),
    )

pub loop-tried-preserved : goal.loop-tried-preserved
loop-tried-preserved c =
    let l = c.loop-tried.invariant in
    let f = c.fetch_or-found.ensures in
    let learned = subst (λ (m : Seat). DrawsFrom m.0 c.fetch_or-found.result c.fetch_or-found.new.seat.me) l.0 f.2 in
    (learned.1 c.if-found-tried-eq0.false, f.0 ∙ l.1, omega (arith, c.loop-tried-test.true), omega (arith, l.3), l.4, l.5)

pub invariant_of-back : goal.invariant_of-back
invariant_of-back c =
    let l = c.loop-tried.invariant in
    let tried : c.loop-tried.tried ≡ tried_of c.loop-tried.seat.me.0 = ap (λ (m : Seat). tried_of m.0) (sym l.0) in
    let passes : c.seat.inside.passes ≡ passes_of c.loop-tried.seat.me.0 = ap (λ (m : Seat). passes_of m.0) (sym l.0) in
    (l.0 ∙ both tried passes, tried, passes, l.2, l.5)

pub returns-clause-err : goal.returns-clause-err
returns-clause-err c =
    let l = c.loop-tried.invariant in (
      l.1,
      ap (λ (m : Seat). tried_of m.0) l.0 ∙ omega (arith, l.2, l.4, c.loop-tried-test.false),
      ap (λ (m : Seat). passes_of m.0) l.0 ∙ l.4,
    )
