use Rattle.nr_recording.proofs.fault.ReadFaultText.send.Goals as goal

pub returns-in-Memory : goal.returns-in-Memory
returns-in-Memory g c = rw c.in-Memory.is c.send.ensures
