use Rattle.nr_command.proofs.reply.ReplyText.send.Goals as goal

pub returns-in-AtStart : goal.returns-in-AtStart
returns-in-AtStart g c = rw c.in-AtStart.is c.send.ensures

pub returns-in-MarkDeleted : goal.returns-in-MarkDeleted
returns-in-MarkDeleted g c = rw c.in-MarkDeleted.is c.send_numbered-in-MarkDeleted.ensures

pub returns-in-CheckpointMade : goal.returns-in-CheckpointMade
returns-in-CheckpointMade g c = rw c.in-CheckpointMade.is c.send_checkpoint.ensures

pub returns-in-CheckpointDeleted : goal.returns-in-CheckpointDeleted
returns-in-CheckpointDeleted g c = rw c.in-CheckpointDeleted.is c.send_numbered-in-CheckpointDeleted.ensures

pub returns-in-Checkpoints : goal.returns-in-Checkpoints
returns-in-Checkpoints g c = rw (c.in-Checkpoints.is, ← c.as_slice-in-Checkpoints.ensures.value) c.send_checkpoints.ensures

pub returns-in-NothingOwed : goal.returns-in-NothingOwed
returns-in-NothingOwed g c = rw c.in-NothingOwed.is c.send-in-NothingOwed.ensures
