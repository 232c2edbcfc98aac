use Rattle.std.proofs.Common.{◌+◌, ◌-◌, ◌*◌, ◌^◌, ◌≤◌, suc, drop, drop-cons, get_or, ◌<◌, arith, sym, ap, ◌∙◌}
use Rattle.std.specs.Str.Parse.{digits_value, digits_value_after}
use Rattle.std.specs.Char.{digit_value}
use Rattle.std.proofs.lemmas.Str.{digit_value_digit}
use Rattle.nr_command.proofs.CommandLemmas.{value_grows, number_big}
use Rattle.nr_command.proofs.parsing.number.Goals as goal

pub returns-in_default : goal.returns-in_default
returns-in_default c =
    let word = c.args.word.now in
    let i = c.loop-digit.digit-index in
    let same = sym c.loop-digit.invariant.value ∙ ap (digits_value_after 10 c.loop-digit.value) (drop-cons word i 0 c.loop-digit-test.true) in
    let d = get_or word i 0 in
    let more = value_grows (c.loop-digit.value * 10 + digit_value d) (drop (suc i) word) in
    let digit = digit_value_digit d c.if-not-is_ascii_digit.ensures.cases in
    let next : (c.loop-digit.value * 10 + (d - 48) < 2 ^ 32) → ⊥ = λ h. c.in_default.ensures (omega (arith, h, c.from.ensures, c.from-in-loop-digit.ensures)) in
    let big : 2 ^ 32 ≤ digits_value 10 word = omega (arith, next, digit, more, same) in
    sym (number_big word big)
