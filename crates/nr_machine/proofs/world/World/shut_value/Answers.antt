use Rattle.std.proofs.Common.{ap, ◌∙◌, arith}
use Rattle.nr_rev.specs.declared.cell_value.CellValue.TheVariants as value
use Rattle.nr_rev.specs.declared.sides.Side.TheVariants.{Read}
use Rattle.nr_rev.specs.Lock.{bit}
use Rattle.nr_machine.specs.Fits.{IsWorld}
use Rattle.nr_machine.specs.World.{WorldParts}
use Rattle.nr_machine.proofs.CellLemmas.{nothing_past, shut_value_is}
use Rattle.nr_machine.proofs.TransferLemmas.{sock_found}
use Rattle.nr_machine.proofs.world.World.shut_value.Goals as goal

pub returns-then-socket-len : goal.returns-then-socket-len
returns-then-socket-len c =
    let m : WorldParts = record { core = c.self.inside.core; socks = c.self.inside.socks.items } in
    rw (← c.self.view_is) (nothing_past m c.args.socket Read (λ x. value.Number (bit x.shut)) (omega arith))

pub returns : goal.returns
returns c =
    let m : WorldParts = record { core = c.self.inside.core; socks = c.self.inside.socks.items } in
    let world : IsWorld m = rw (← c.self.view_is) at c.requires in
    let found = sock_found m c.args.socket _ c.index.result.now world c.len.ensures.len c.if-socket-len.false c.index.ensures in
    rw (← c.self.view_is) (ap value.Number c.from.ensures ∙ shut_value_is m c.args.socket c.index.result.now c.shut.result found.0 found.1 c.shut.ensures)
