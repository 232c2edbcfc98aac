use Rattle.std.proofs.Common.{append_assoc}
use Rattle.nr_snaps.proofs.fault.LoadFaultText.send.Goals as goal

pub returns-in-Refused : goal.returns-in-Refused
returns-in-Refused g c = rw c.in-Refused.is (simp append_assoc (rw (c.from.ensures, c.number.ensures) at c.send_all.ensures))

pub returns-in-Memory : goal.returns-in-Memory
returns-in-Memory g c = rw c.in-Memory.is c.send.ensures

pub returns-in-OtherAnswer : goal.returns-in-OtherAnswer
returns-in-OtherAnswer g c = rw c.in-OtherAnswer.is (simp append_assoc c.send_all-in-OtherAnswer.ensures)
