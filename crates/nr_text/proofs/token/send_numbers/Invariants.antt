-- the numbers before the current one have been sent
use Rattle.std.proofs.Common.{take, flat_map, Ok}
use Rattle.nr_text.specs.Buffered.{Writes}
use Rattle.nr_text.specs.Text.{spaced_number}
use Rattle.nr_text.proofs.token.send_numbers.Given as goal

abbrev pub invariant-loop-number : goal.invariant-loop-number
invariant-loop-number g l = Writes l.initial.w l.w (flat_map spaced_number (take l.number-index l.numbers)) (Ok tt)
