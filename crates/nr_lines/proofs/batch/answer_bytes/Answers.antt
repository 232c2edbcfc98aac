use Rattle.std.proofs.Common.{◌∙◌}
use Rattle.std.proofs.lemmas.Result.{err_from_is_err_and}
use Rattle.nr_lines.proofs.BytesLemmas.{bytes_cut, bytes_failed, bytes_out, none_held}
use Rattle.nr_lines.proofs.batch.answer_bytes.Goals as goal

pub returns-in_err-quits-clause-answers : goal.returns-in_err-quits-clause-answers
returns-in_err-quits-clause-answers g c =
    let p = err_from_is_err_and c.from_residual.result c.from_residual.ensures.1 in
    rw (p.1, p.2) (λ before kept. bytes_failed _ before _ _ _ _ _ _ _ _ _ _ (c.in_err-quits.ensures.answers before kept))

pub returns-in_err-put_out-clause-answers : goal.returns-in_err-put_out-clause-answers
returns-in_err-put_out-clause-answers g c =
    let p = err_from_is_err_and c.from_residual-in_err-put_out.result c.from_residual-in_err-put_out.ensures.1 in
    rw (p.1, p.2) (λ before kept.
    bytes_cut _ before _ _ _ _ _ _ _ _ _ _ c.in_ok-quits.quits _ (λ once. none_held c.answer_lines.new.outbox (c.in_ok-quits.ensures.kind ∙ once)) (c.in_ok-quits.ensures.answers before kept)
    c.in_err-put_out.ensures.err)

pub returns-clause-answers : goal.returns-clause-answers
returns-clause-answers g c = λ before kept. bytes_out _ before _ _ _ _ _ _ _ _ _ _ c.in_ok-quits.quits (c.in_ok-quits.ensures.answers before kept) c.in_ok-put_out.ensures.ok
