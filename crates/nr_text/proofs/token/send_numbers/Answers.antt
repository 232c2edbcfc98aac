use Rattle.nr_text.specs.Text.{spaced_number}
use Rattle.nr_text.proofs.TextLemmas.{all_numbers_cut}
use Rattle.nr_text.proofs.token.send_numbers.Goals as goal

pub returns-in_err-send : goal.returns-in_err-send
returns-in_err-send g c =
    all_numbers_cut spaced_number c.args.numbers.now c.loop-number.number-index _ _ _ _ _ c.loop-number-test.true c.from_residual.ensures.0 c.loop-number.invariant c.in_err-send.ensures
