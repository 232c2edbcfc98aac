use Rattle.nr_suspects.proofs.lost_wake_up.LostWakeUp.send_event.Goals as goal

pub returns : goal.returns
returns g c = rw (← c.side_name.ensures) c.send_all.ensures
