use Rattle.std.proofs.Common.{◌≡◌, ◌<◌, get_or, length, ap, ◌∙◌, arith}
use Rattle.nr_recording.specs.Plain.{items_behind}
use Rattle.nr_recording.proofs.PlainLemmas.{comma_then, comma_space_then, split_front, split_two}
use Rattle.nr_recording.proofs.plain.next_item.Goals as goal

pub returns-in-44-clause-begins : goal.returns-in-44-clause-begins
returns-in-44-clause-begins c =
    let text = c.args.behind.now in
    let first : get_or text 0 0 ≡ 44 = grind arith in
    let second : get_or text 1 0 ≡ 32 = grind arith in
    ap items_behind (split_two 44 32 text (omega arith) first second) ∙ comma_space_then _

pub returns-in-44-2-clause-begins : goal.returns-in-44-2-clause-begins
returns-in-44-2-clause-begins c =
    let text = c.args.behind.now in
    let some : 0 < length text = grind arith in
    let first : get_or text 0 0 ≡ 44 = grind arith in
    ap items_behind (split_front 44 text some first) ∙ comma_then _
