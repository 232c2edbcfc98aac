use Rattle.std.proofs.Common.{ℕ, List, map, length, nat_eq, nat_lt, rules, tests, ap, ◌∙◌}
use Rattle.std.proofs.lemmas.Iterator.{YieldsList-from_take}
use Rattle.std.proofs.lemmas.Iterator.Consumers.{YieldsList-from_filter, YieldsList-end}
use Rattle.std.proofs.lemmas.Iterator.Splits.{YieldsList-from_slice_split}
use Rattle.nr_command.proofs.parsing.first_words.Goals as goal

pub returns : goal.returns
returns c =
    let parts = YieldsList-from_slice_split _ (λ (b : ℕ). nat_eq b 32) c.args.line.now (cc) (cc) (cc) (λ x r q k. search (rules, tests)) in
    let words = YieldsList-from_filter _ (λ (word : List ℕ). nat_lt 0 (length word)) parts (cc) (λ x r q k. search (rules, tests)) in
    let end = YieldsList-end (YieldsList-from_take 4 words (cc)) c.loop-word.yielded _ c.loop-word.yielded_by _ _ c.in-None.is c.next.ensures.steps in
    ap (map (λ word. word.now)) c.loop-word.invariant ∙ end.0
