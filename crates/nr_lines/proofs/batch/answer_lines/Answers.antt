use Rattle.std.proofs.Common.{refl, rules, ◌≡◌, ◌≢◌, ℕ, sym, ◌∙◌, eq-eqb, false, nat_eq}
use Rattle.std.proofs.Common.{inl, inr}
use Rattle.std.proofs.lemmas.Bool.Decides.{eqb_tells}
use Rattle.std.proofs.lemmas.Result.{err_from_is_err_and}
use Rattle.nr_lines.proofs.BytesLemmas.{all_over, byte_more, came_at, line_cut, line_more, line_quits, none_over, read_at, relined_over}
use Rattle.nr_lines.proofs.batch.answer_lines.Goals.{then-byte-ne10, else-byte-ne10+in_ok-quits+else-quits}
use Rattle.nr_lines.proofs.batch.answer_lines.Goals as goal

differs : (a b : ℕ) → a ≢ b → nat_eq a b ≡ false
differs a b h = elim (eqb_tells a b) as (λ _. nat_eq a b ≡ false) [ inl same ↦ absurd (h same.1) | inr other ↦ other.0 ]

pub loop-byte-init : goal.loop-byte-init
loop-byte-init g c = record {
  table = c.requires.table;
  kind = refl;
  writer = refl;
  over = λ before kept. none_over before _ _ _ _ _ c.requires.empty kept;
}

pub loop-byte-preserved : goal.loop-byte-preserved
loop-byte-preserved g c =
    let bytes = c.args.bytes.now in
    elim c.if-byte-ne10.branch [
      | then-byte-ne10 w ↦
          rw (w.w-is, w.front-is, w.line-is, w.whole-is, w.outbox-is) (record {
            table = c.loop-byte.invariant.table;
            kind = c.loop-byte.invariant.kind;
            writer = c.loop-byte.invariant.writer;
            over = λ before kept.
                rw (sym (read_at before bytes c.loop-byte.byte-index c.loop-byte-test.true))
                (byte_more before _ _ _ _ _ _ _ _ _ _ _ (c.loop-byte.invariant.over before kept) (differs _ _ w.if-byte-ne10.true) w.keep.ensures);
          })
      | else-byte-ne10+in_ok-quits+else-quits w ↦
          rw (w.w-is, w.front-is, w.line-is, w.whole-is, w.outbox-is) (record {
            table = w.in_ok-quits.ensures.table ∙ c.loop-byte.invariant.table;
            kind = w.in_ok-quits.ensures.kind ∙ c.loop-byte.invariant.kind;
            writer = w.in_ok-quits.ensures.calm ∙ c.loop-byte.invariant.writer;
            over = λ before kept.
                let there = relined_over before _ _ _ _ _ _ _ _ _ _ (c.loop-byte.invariant.over before kept) w.as_slice.ensures.value in
                rw (sym (read_at before bytes c.loop-byte.byte-index c.loop-byte-test.true))
                (line_more before _ _ _ _ _ _ _ c.loop-byte.outbox _ _ _ _ _ _ _ there (eq-eqb _ _ w.if-byte-ne10.false) (sym w.in_ok-quits.ensures.quits ∙ w.if-quits.false) w.in_ok-quits.ensures.ok
                w.clear.ensures);
          })
    ]

pub returns-in_err-quits-clause-answers : goal.returns-in_err-quits-clause-answers
returns-in_err-quits-clause-answers g c =
    let p = err_from_is_err_and c.from_residual.result c.from_residual.ensures.1 in
    rw (p.1, p.2) (λ before kept.
    let over = relined_over before _ _ _ _ _ _ _ _ _ _ (c.loop-byte.invariant.over before kept) c.as_slice.ensures.value in
    let there = came_at before c.args.bytes.now c.loop-byte.byte-index c.loop-byte-test.true in
    line_cut before _ _ _ _ _ _ _ _ _ c.loop-byte.outbox _ _ _ _ _ _ _ _ _ over c.loop-byte.invariant.kind there (eq-eqb _ _ c.if-byte-ne10.false) c.in_err-quits.ensures.err)

pub returns-then-quits-clause-answers : goal.returns-then-quits-clause-answers
returns-then-quits-clause-answers g c = λ before kept.
    let over = relined_over before _ _ _ _ _ _ _ _ _ _ (c.loop-byte.invariant.over before kept) c.as_slice.ensures.value in
    let there = came_at before c.args.bytes.now c.loop-byte.byte-index c.loop-byte-test.true in
    line_quits _ before _ _ _ _ _ _ _ _ _ c.loop-byte.outbox c.turn.new.outbox _ _ _ _ _ _ over there (eq-eqb _ _ c.if-byte-ne10.false) (sym c.in_ok-quits.ensures.quits ∙ c.if-quits.true) c.in_ok-quits.ensures.ok

pub returns-clause-answers : goal.returns-clause-answers
returns-clause-answers g c = λ before kept. all_over _ before c.args.bytes.now _ _ _ _ _ _ _ _ _ (c.loop-byte.invariant.over before kept) (search rules)
