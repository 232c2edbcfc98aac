use Rattle.std.proofs.Common.{length, ap, ◌∙◌, arith}
use Rattle.nr_rev.specs.declared.cell_value.CellValue.TheVariants as value
use Rattle.nr_rev.specs.Sides.{of_side}
use Rattle.nr_machine.specs.Fits.{IsWorld}
use Rattle.nr_machine.specs.World.{WorldParts}
use Rattle.nr_machine.proofs.CellLemmas.{length_value_is, nothing_past}
use Rattle.nr_machine.proofs.TransferLemmas.{sock_found}
use Rattle.nr_machine.proofs.world.World.length_value.Goals as goal

pub returns-then-socket-len : goal.returns-then-socket-len
returns-then-socket-len c =
    let m : WorldParts = record { core = c.self.inside.core; socks = c.self.inside.socks.items } in
    rw (← c.self.view_is) (nothing_past m c.args.socket c.args.side (λ x. value.Number (length (of_side c.args.side x.buffers).bytes)) (omega arith))

pub returns : goal.returns
returns c =
    let m : WorldParts = record { core = c.self.inside.core; socks = c.self.inside.socks.items } in
    let world : IsWorld m = rw (← c.self.view_is) at c.requires in
    let found = sock_found m c.args.socket _ c.index.result.now world c.len.ensures.len c.if-socket-len.false c.index.ensures in
    rw (← c.self.view_is) (ap value.Number c.from.ensures ∙ length_value_is m c.args.socket c.args.side c.index.result.now c.len-2.result found.0 found.1 c.len-2.ensures.len)
