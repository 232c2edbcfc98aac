use Rattle.std.proofs.Common.{◌≤◌, arith, length}
use Rattle.nr_text.proofs.TextLemmas.{all_cut, all_sent}
use Rattle.nr_command.proofs.listing.send_lines.Goals as goal

pub returns-in_err-send_line : goal.returns-in_err-send_line
returns-in_err-send_line g c =
    all_cut g.T.Listed.line c.args.items.now c.loop-item.item-index c.item-item.result c.args.w.now c.loop-item.w c.send_line.new.w c.in_err-send_line.field-0.0 c.from_residual.result
    c.loop-item-test.true c.item-item.is c.from_residual.ensures.0 c.loop-item.invariant c.in_err-send_line.ensures

pub returns : goal.returns
returns g c =
    let items = c.args.items.now in
    let all : length items ≤ c.loop-item.item-index = omega (arith, c.loop-item-test.false) in
    all_sent g.T.Listed.line items c.loop-item.item-index c.args.w.now c.loop-item.w all c.loop-item.invariant
