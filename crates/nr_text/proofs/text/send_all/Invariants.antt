-- the parts before the current one have been sent
use Rattle.std.proofs.Common.{take, flat_map, Ok}
use Rattle.nr_text.specs.Buffered.{Writes}
use Rattle.nr_text.proofs.text.send_all.Given as goal

abbrev pub invariant-loop-part : goal.invariant-loop-part
invariant-loop-part g l = Writes l.initial.w l.w (flat_map g.P.Text.text (take l.part-index l.parts)) (Ok tt)
