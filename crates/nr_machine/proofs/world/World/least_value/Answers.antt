use Rattle.std.proofs.Common.{◌≡◌, Option, sym, ap, ◌∙◌, rules, of_z, to_z, w64}
use Rattle.nr_rev.specs.declared.cell_value.CellValue.TheVariants as value
use Rattle.nr_rev.specs.declared.timer.Entry.{Entry}
use Rattle.nr_rev.specs.Cell.{value_or_absent}
use Rattle.nr_machine.proofs.PopLemmas.{least_is}
use Rattle.nr_machine.proofs.world.World.least_value.Goals as goal

pub returns-in-None : goal.returns-in-None
returns-in-None c =
    let world = rw (← c.self.view_is) at c.requires in
    let first = least_is c.entries_are_the_descriptors.ensures.least _ world.parts in
    rw (← c.self.view_is) (ap (λ (o : Option Entry). value_or_absent (λ e. value.Time e.timer.due) o) (sym c.in-None.is ∙ c.least.ensures ∙ sym first))

pub returns-in-Some : goal.returns-in-Some
returns-in-Some c =
    let world = rw (← c.self.view_is) at c.requires in
    let first = least_is c.entries_are_the_descriptors.ensures.least _ world.parts in
    let time : to_z w64 (of_z w64 c.in-Some.entry.timer.due) ≡ c.in-Some.entry.timer.due = search rules in
    rw (← c.self.view_is) (ap value.Time time ∙ ap (λ (o : Option Entry). value_or_absent (λ e. value.Time e.timer.due) o) (sym c.in-Some.is ∙ c.least.ensures ∙ sym first))
