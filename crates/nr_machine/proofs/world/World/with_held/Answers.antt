use Rattle.std.proofs.Common.{◌≡◌, ◌++◌, List, ℕ, Some, None, rules, sym, ap, ◌∙◌}
use Rattle.std.specs.Prelude.{slice_get}
use Rattle.std.proofs.lemmas.List.{append-nil, append_assoc}
use Rattle.nr_changes.specs.Touched.{held_by, held_of}
use Rattle.nr_machine.proofs.TouchLemmas.{held_here, held_nowhere}
use Rattle.nr_machine.proofs.world.World.with_held.Goals as goal

pub returns-in-Some : goal.returns-in-Some
returns-in-Some c =
    let m = c.args.self.now in
    let numbers = c.args.numbers.items in
    let desc = c.in-Some.desc in
    let at : slice_get m.core.descriptors.items c.args.descriptor ≡ Some desc = search rules in
    let both : held_by c.word.result ++ held_by c.word-in-Some.result ≡ held_of desc = search rules in
    c.push_held-in-Some.ensures
    ∙ ap (λ (xs : List ℕ). xs ++ held_by c.word-in-Some.result) c.push_held.ensures
    ∙ append_assoc numbers (held_by c.word.result) (held_by c.word-in-Some.result)
    ∙ ap (λ (xs : List ℕ). numbers ++ xs) (both ∙ sym (held_here m c.args.descriptor desc at))

pub returns-in_default : goal.returns-in_default
returns-in_default c =
    let m = c.args.self.now in
    let numbers = c.args.numbers.items in
    let at : slice_get m.core.descriptors.items c.args.descriptor ≡ None = search rules in
    sym (append-nil numbers) ∙ ap (λ (xs : List ℕ). numbers ++ xs) (sym (held_nowhere m c.args.descriptor at))
