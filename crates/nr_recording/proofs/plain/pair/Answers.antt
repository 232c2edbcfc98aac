use Rattle.std.proofs.Common.{◌≡◌, ◌<◌, ◌^◌, ◌∷◌, [], get_or, subst, List, ℕ, arith, rules}
use Rattle.json.specs.Token.{Token}
use Rattle.nr_recording.specs.Plain.{Begins}
use Rattle.std.proofs.Common.{decimal}
use Rattle.nr_recording.proofs.PlainLemmas.{pair_back, pair_begins, split_front}
use Rattle.nr_recording.proofs.plain.pair.Goals as goal

pub returns-clause-begins : goal.returns-clause-begins
returns-clause-begins c =
    let n = c.in_ok-count.count in
    let last = c.in_ok-count.behind.now in
    let closing : get_or last 0 0 ≡ 93 = grind arith in
    let second = subst (λ (text : List ℕ). Begins c.in_ok-next_item.field-0.now (Token.number (decimal n) ∷ []) text) (split_front 93 last c.in-93.len_at_least closing) c.in_ok-count.ensures.begins in
    pair_begins c.in_ok-word.word.now n c.args.inside.now c.in_ok-word.behind.now c.in_ok-next_item.field-0.now _ c.in_ok-word.ensures.begins c.in_ok-next_item.ensures.begins second

pub returns-clause-reads_back : goal.returns-clause-reads_back
returns-clause-reads_back c =
    let n = c.in_ok-count.count in
    let small : n < 2 ^ 64 = search rules in
    pair_back c.in_ok-word.word n small
