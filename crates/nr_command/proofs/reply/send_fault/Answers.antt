use Rattle.nr_command.proofs.reply.send_fault.Goals as goal

pub returns-in-Memory : goal.returns-in-Memory
returns-in-Memory g c = rw c.in-Memory.is c.send-in-Memory.ensures

pub returns-in-Placed : goal.returns-in-Placed
returns-in-Placed g c = rw c.in-Placed.is c.send_placed.ensures

pub returns-in-JournalFull : goal.returns-in-JournalFull
returns-in-JournalFull g c = rw c.in-JournalFull.is c.send-in-JournalFull.ensures
