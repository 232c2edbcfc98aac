use Rattle.std.proofs.Common.{◌≡◌, Ok, rules, ap, ◌∙◌}
use Rattle.std.specs.Prelude.{List, map}
use Rattle.nr_rev.specs.Step.{outcome}
use Rattle.nr_rev.specs.declared.cell.Cell.{Cell}
use Rattle.nr_changes.specs.Changed.{touched_cells}
use Rattle.nr_changes.specs.Changes.{with_value}
use Rattle.nr_changes.specs.declared.changing.CellWithValue.{CellWithValue}
use Rattle.nr_changes.proofs.AllCellsLemmas.{changed_differing}
use Rattle.nr_changes.proofs.ChangingLemmas.{changes_among, changes_since}
use Rattle.nr_changes.proofs.changing.advance.Goals as goal

pub returns-in-Ok-clause-changes : goal.returns-in-Ok-clause-changes
returns-in-Ok-clause-changes g c =
    let w = g.W.Worlds.world c.args.world.now in
    let next = g.W.Worlds.world c.advance.new.self in
    let before : c.list_values.new.values.items ≡ map (with_value w) (touched_cells w c.args.step.now) = search rules in
    let is : outcome w c.args.step.now ≡ Ok (c.in-Ok.answer, next) = search rules in
    c.keep_changed.ensures
    ∙ ap (λ (xs : List CellWithValue). changes_since next xs) before
    ∙ changes_among (touched_cells w c.args.step.now) w next
    ∙ ap (λ (cells : List Cell). map (with_value next) cells) (changed_differing w c.args.step.now c.in-Ok.answer next is)
