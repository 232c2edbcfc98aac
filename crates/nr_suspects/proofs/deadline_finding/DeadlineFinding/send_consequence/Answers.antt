use Rattle.nr_suspects.proofs.deadline_finding.DeadlineFinding.send_consequence.Goals as goal

pub returns : goal.returns
returns g c = rw (← c.consequence_name.ensures) c.send_all.ensures
