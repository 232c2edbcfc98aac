use Rattle.nr_gsema.proofs.ReadLemmas.{queued_up}
use Rattle.nr_gsema.proofs.table.GTable.queues_hold_the_queued.Goals as goal

pub returns : goal.returns
returns c = queued_up (record { queues = c.self.invariant.queues; view = c.self.view_is })
