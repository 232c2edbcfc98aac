use Rattle.std.proofs.Common.{◌∙◌}
use Rattle.std.proofs.lemmas.Result.{err_from_is_err_and}
use Rattle.nr_lines.specs.Outbox.{is_at_once}
use Rattle.nr_lines.proofs.BytesLemmas.{none_held, one_cut, one_runs, runs_cut, runs_out}
use Rattle.nr_lines.proofs.batch.answer_last.Goals as goal

pub returns-in_err-quits-clause-answers : goal.returns-in_err-quits-clause-answers
returns-in_err-quits-clause-answers g c =
    let p = err_from_is_err_and c.from_residual.result c.from_residual.ensures.1 in
    rw (p.1, p.2) (λ rest kept. one_cut _ _ _ _ _ _ rest _ _ c.requires.empty kept c.in_err-quits.ensures.err)

pub returns-in_err-put_out-clause-answers : goal.returns-in_err-put_out-clause-answers
returns-in_err-put_out-clause-answers g c =
    let p = err_from_is_err_and c.from_residual-in_err-put_out.result c.from_residual-in_err-put_out.ensures.1 in
    rw (p.1, p.2) (λ rest kept.
    let runs = one_runs (is_at_once c.args.outbox.now) _ _ _ _ _ c.args.outbox.now c.turn.new.outbox _ rest _ _ c.requires.empty kept c.in_ok-quits.ensures.quits c.in_ok-quits.ensures.ok in
    runs_cut (is_at_once c.args.outbox.now) _ _ _ _ _ _ _ _ _ c.in_ok-quits.quits _ (λ once. none_held c.turn.new.outbox (c.in_ok-quits.ensures.kind ∙ once)) runs c.in_err-put_out.ensures.err)

pub returns-clause-answers : goal.returns-clause-answers
returns-clause-answers g c = λ rest kept.
    let runs = one_runs (is_at_once c.args.outbox.now) _ _ _ _ _ c.args.outbox.now c.turn.new.outbox _ rest _ _ c.requires.empty kept c.in_ok-quits.ensures.quits c.in_ok-quits.ensures.ok in
    runs_out (is_at_once c.args.outbox.now) _ _ _ _ _ _ _ _ _ c.in_ok-quits.quits runs c.in_ok-put_out.ensures.ok
