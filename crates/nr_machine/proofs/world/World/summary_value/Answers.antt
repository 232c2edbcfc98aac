use Rattle.std.proofs.Common.{Option, sym, ap, ◌∙◌}
use Rattle.nr_rev.specs.declared.cell_value.CellValue.{CellValue}
use Rattle.nr_rev.specs.declared.cell_value.CellValue.TheVariants as value
use Rattle.nr_rev.specs.declared.descriptor.Descriptor.{Descriptor}
use Rattle.nr_rev.specs.Cell.{value_or_absent}
use Rattle.nr_rev.specs.Descriptor.{summary}
use Rattle.nr_machine.proofs.CellLemmas.{descriptor_value_is}
use Rattle.nr_machine.proofs.world.World.summary_value.Goals as goal

pub returns-in-Some : goal.returns-in-Some
returns-in-Some c =
    let f : Descriptor → CellValue = λ x. value.Number (summary x) in
    ap value.Number c.summary.ensures ∙ ap (λ (o : Option Descriptor). value_or_absent f o) (sym c.in-Some.is ∙ c.desc.ensures)
    ∙ descriptor_value_is c.args.self.now c.args.descriptor f
