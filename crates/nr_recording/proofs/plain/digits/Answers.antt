use Rattle.std.proofs.Common.{◌<◌, length, drop, take, ◌-◌, arith}
use Rattle.nr_recording.proofs.PlainLemmas.{first_digit}
use Rattle.nr_recording.proofs.plain.digits.Goals as goal

pub returns-then-number-eq0-clause-number : goal.returns-then-number-eq0-clause-number
returns-then-number-eq0-clause-number c =
    first_digit 0 c.args.text.now c.in-len1-up.len_at_least (omega arith) (grind arith)

pub loop-left-init : goal.loop-left-init
loop-left-init c =
    let text = c.args.text.now in
    let n = c.in_ok-number.number in
    let less : length (take (length text - 1) (drop 1 text)) < length text = grind arith in
    (first_digit n text c.in-len1-up.len_at_least c.in_ok-number.ensures.0 c.in_ok-number.ensures.1, omega (arith, c.if-number-eq0.false), less)
