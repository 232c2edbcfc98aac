use Rattle.nr_text.specs.Text.{hex_pair}
use Rattle.nr_text.proofs.TextLemmas.{all_numbers_cut}
use Rattle.nr_text.proofs.token.send_hex.Goals as goal

pub returns-in_err-send : goal.returns-in_err-send
returns-in_err-send g c =
    all_numbers_cut hex_pair c.args.bytes.now c.loop-byte.byte-index _ _ _ _ _ c.loop-byte-test.true c.from_residual.ensures.0 c.loop-byte.invariant c.in_err-send.ensures
