-- the bytes before the current one have been sent
use Rattle.std.proofs.Common.{take, flat_map, Ok}
use Rattle.nr_text.specs.Buffered.{Writes}
use Rattle.nr_text.specs.Text.{hex_pair}
use Rattle.nr_text.proofs.token.send_hex.Given as goal

abbrev pub invariant-loop-byte : goal.invariant-loop-byte
invariant-loop-byte g l = Writes l.initial.w l.w (flat_map hex_pair (take l.byte-index l.bytes)) (Ok tt)
