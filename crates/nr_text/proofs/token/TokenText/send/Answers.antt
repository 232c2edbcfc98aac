use Rattle.nr_text.proofs.token.TokenText.send.Goals as goal

pub returns-in-Hex : goal.returns-in-Hex
returns-in-Hex g c = rw c.in-Hex.is c.send_hex.ensures

pub returns-in-Numbers : goal.returns-in-Numbers
returns-in-Numbers g c = rw c.in-Numbers.is c.send_numbers.ensures
