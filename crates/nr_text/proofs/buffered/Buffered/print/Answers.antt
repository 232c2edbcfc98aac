use Rattle.std.proofs.Common.{append-nil, subst, Ok, Err}
use Rattle.nr_text.specs.Buffered.{SentOrCut}
use Rattle.nr_text.proofs.BufferedLemmas.{cut_is_counted, from_begun}
use Rattle.nr_text.proofs.buffered.Buffered.print.Goals as goal

pub returns-in_err-send-clause-out : goal.returns-in_err-send-clause-out
returns-in_err-send-clause-out g c =
    let cut = from_begun c.args.self.now c.send.new.w c.begin.new.self (g.T.Text.text c.args.text.now) (Err c.in_err-send.field-0.0) c.begin.ensures c.requires c.in_err-send.ensures in
    cut_is_counted c.args.self.now.taken (g.T.Text.text c.args.text.now) c.send.new.w c.from_residual.result c.from_residual.ensures.0 cut

pub returns-in_err-send-clause-empty : goal.returns-in_err-send-clause-empty
returns-in_err-send-clause-empty g c =
    let cut = from_begun c.args.self.now c.send.new.w c.begin.new.self (g.T.Text.text c.args.text.now) (Err c.in_err-send.field-0.0) c.begin.ensures c.requires c.in_err-send.ensures in
    cut.dropped

pub returns-clause-out : goal.returns-clause-out
returns-clause-out g c =
    let text = g.T.Text.text c.args.text.now in
    let taken = c.args.self.now.taken in
    let sent = from_begun c.args.self.now c.send.new.w c.begin.new.self text (Ok tt) c.begin.ensures c.requires c.in_ok-send.ensures in
    subst (λ t. SentOrCut taken t c.put_out_held.new.self c.put_out_held.result) (append-nil text) (c.put_out_held.ensures.out.behind taken text sent)
