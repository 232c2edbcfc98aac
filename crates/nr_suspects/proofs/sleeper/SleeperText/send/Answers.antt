use Rattle.nr_suspects.proofs.sleeper.SleeperText.send.Goals as goal

pub returns : goal.returns
returns g c = rw (← c.side_name.ensures) (rw (← c.reason_name.ensures) c.send_all.ensures)
