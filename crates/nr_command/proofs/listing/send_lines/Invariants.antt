-- the lines of the items visited so far are sent
use Rattle.std.proofs.Common.{take, flat_map, Ok}
use Rattle.nr_text.specs.Buffered.{Writes}
use Rattle.nr_command.proofs.listing.send_lines.Given as goal

abbrev pub invariant-loop-item : goal.invariant-loop-item
invariant-loop-item g l = Writes l.initial.w l.w (flat_map g.T.Listed.line (take l.item-index l.items)) (Ok tt)
