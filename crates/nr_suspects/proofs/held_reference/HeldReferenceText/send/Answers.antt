use Rattle.nr_suspects.proofs.held_reference.HeldReferenceText.send.Goals as goal

pub returns : goal.returns
returns g c = rw (← c.gone_name.ensures) c.send_all.ensures
