use Rattle.std.proofs.Common.{map, ap, ◌∙◌}
use Rattle.nr_rev.specs.declared.cell_value.CellValue.TheVariants as value
use Rattle.nr_rev.specs.declared.descriptor.DescriptorRow.{DescriptorRow}
use Rattle.nr_machine.specs.Fits.{IsWorld}
use Rattle.nr_machine.specs.World.{WorldParts, meant}
use Rattle.nr_machine.proofs.RowsLemmas.{timers_are}
use Rattle.nr_machine.proofs.world.World.timers_value.Goals as goal

pub returns : goal.returns
returns c =
    let m : WorldParts = record { core = c.self.inside.core; socks = c.self.inside.socks.items } in
    let world : IsWorld m = rw (← c.self.view_is) at c.requires in
    rw (← c.self.view_is)
    (ap value.Number (c.len.ensures ∙ c.entries_are_the_descriptors.ensures.count m.core.timers (map (λ (row : DescriptorRow). row.timers) (meant m).descriptors) world.parts.core.timers (timers_are m world.parts)))
