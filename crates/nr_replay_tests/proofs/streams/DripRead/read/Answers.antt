use Rattle.std.proofs.Common.{◌≡◌, ◌<◌, ◌++◌, ◌∷◌, [], set, take, length, arith, rules, sym, ap, ◌∙◌}
use Rattle.std.proofs.lemmas.List.{take_more_set}
use Rattle.nr_replay_tests.proofs.streams.DripRead.read.Goals as goal

pub returns-in-Some-clause-bytes : goal.returns-in-Some-clause-bytes
returns-in-Some-clause-bytes c =
    let some : 0 < length c.args.buf.now = search rules in
    let one : take 1 (set c.args.buf.now 0 c.in-Some.first.now) ≡ c.in-Some.first.now ∷ [] = take_more_set c.args.buf.now 0 c.in-Some.first.now some in
    (c.in-Some.ensures.cases.0 ∙ ap (λ t. t ++ c.in-Some.rest.now) (sym one), λ h. absurd (omega (arith, h)))
