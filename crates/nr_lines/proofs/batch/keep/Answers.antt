use Rattle.std.proofs.Common.{◌≡◌, ◌<◌, ◌∷◌, ◌++◌, [], length, arith, rules, sym, ◌∙◌, take_all, length-append}
use Rattle.std.proofs.lemmas.List.{take_at}
use Rattle.nr_lines.proofs.batch.keep.Goals as goal

pub returns-then-not-is_full : goal.returns-then-not-is_full
returns-then-not-is_full c =
    let items = c.args.line.now.items in
    let room : length items < 257 = search rules in
    let len = length-append items (c.args.byte ∷ []) in
    c.push.ensures.items ∙ sym (take_all 257 (items ++ c.args.byte ∷ []) (omega (arith, room, len)))

pub returns-else-not-is_full : goal.returns-else-not-is_full
returns-else-not-is_full c =
    let full : length c.args.line.now.items ≡ 257 = search rules in
    sym (take_at c.args.line.now.items (c.args.byte ∷ []) 257 full)
