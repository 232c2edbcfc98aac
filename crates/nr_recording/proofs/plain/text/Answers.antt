use Rattle.std.proofs.Common.{◌≡◌, ◌∷◌, ◌++◌, ◌-◌, length, take, drop, get_or, refl, ap, sym, ◌∙◌, arith}
use Rattle.json.specs.Lex.{between, lex, punctuate}
use Rattle.nr_recording.proofs.PlainLemmas.{no_escape_before, split_front, text_begins}
use Rattle.nr_recording.proofs.plain.text.Goals as goal

pub returns-then-ends_item-clause-begins : goal.returns-then-ends_item-clause-begins
returns-then-ends_item-clause-begins c place may =
    let text = c.args.text.now in
    let inside = take (length text - 1) (drop 1 text) in
    let word = c.split_at.result.0.now in
    let behind = c.split_at.result.1.now in
    let left = take (length behind - 1) (drop 1 behind) in
    let opening : get_or text 0 0 ≡ 34 = grind arith in
    let closing : get_or behind 0 0 ≡ 34 = grind arith in
    let front : word ≡ take c.in_ok-len.len inside = c.split_at.ensures.front in
    let bytes = no_escape_before word inside c.in_ok-len.len c.in_ok-len.ensures.0.before c.split_at.ensures.front_len front (c.if-has_control.ensures refl) in
    let whole : text ≡ 34 ∷ (word ++ 34 ∷ left) =
    split_front 34 text c.in-34.len_at_least opening ∙ ap (λ l. 34 ∷ l) (c.split_at.ensures.by_index.0 ∙ ap (λ l. word ++ l) (split_front 34 behind c.in-34-behind.len_at_least closing)) in
    ap (λ l. punctuate place (lex between l)) whole ∙ text_begins word left bytes (sym c.if-ends_item.ensures) place may
