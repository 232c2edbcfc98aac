use Rattle.std.proofs.Common.{◌≡◌, ◌∷◌, length, map, take, nat_lt, rules, false, ◌∙◌}
use Rattle.std.proofs.lemmas.Bool.{le-ltb}
use Rattle.nr_command.specs.Command.{without_return, words}
use Rattle.nr_command.proofs.CommandLemmas.{meaning_of-first}
use Rattle.nr_command.proofs.command.Command.parse.Goals as goal

pub returns-in-Some : goal.returns-in-Some
returns-in-Some c =
    let short : nat_lt 256 (length c.args.line.now) ≡ false = le-ltb 256 (length c.args.line.now) (search rules) in
    let first = c.in-Some.verb.now.now ∷ map (λ word. word.now) c.in-Some.rest.now in
    let is : first ≡ take 4 (words (without_return c.args.line.now)) = search rules in
    c.request.ensures ∙ meaning_of-first c.args.line.now first short is
