use Rattle.std.proofs.Common.{◌<◌, ◌^◌, sym, ap, ◌∙◌, rules}
use Rattle.json.specs.Lex.{between, lex, punctuate}
use Rattle.nr_recording.proofs.PlainLemmas.{number_begins}
use Rattle.nr_recording.proofs.plain.number.Goals as goal

pub returns-then-ends_item-clause-begins : goal.returns-then-ends_item-clause-begins
returns-then-ends_item-clause-begins c place may =
    let n = c.in_ok-number.number in
    let small : n < 2 ^ 64 = search rules in
    ap (λ text. punctuate place (lex between text)) c.in_ok-number.ensures.number ∙ number_begins n c.in_ok-number.left.now small (sym c.if-ends_item.ensures) place may
