use Rattle.std.proofs.Common.{◌≤◌, arith, length, sym, subst, Ok}
use Rattle.nr_text.specs.Buffered.{Writes}
use Rattle.nr_text.proofs.TextLemmas.{all_cut, all_sent, text_of_parts_is}
use Rattle.nr_text.proofs.text.send_all.Goals as goal

pub returns-in_err-send : goal.returns-in_err-send
returns-in_err-send g c =
    let text = g.P.Text.text in
    let parts = c.args.parts.now in
    subst (λ t. Writes c.args.w.now c.send.new.w t c.from_residual.result) (sym (text_of_parts_is text parts))
    (all_cut text parts c.loop-part.part-index c.part-item.result c.args.w.now c.loop-part.w c.send.new.w c.in_err-send.field-0.0 c.from_residual.result
    c.loop-part-test.true c.part-item.is c.from_residual.ensures.0 c.loop-part.invariant c.in_err-send.ensures)

pub returns : goal.returns
returns g c =
    let text = g.P.Text.text in
    let parts = c.args.parts.now in
    let all : length parts ≤ c.loop-part.part-index = omega (arith, c.loop-part-test.false) in
    subst (λ t. Writes c.args.w.now c.loop-part.w t (Ok tt)) (sym (text_of_parts_is text parts)) (all_sent text parts c.loop-part.part-index c.args.w.now c.loop-part.w all c.loop-part.invariant)
