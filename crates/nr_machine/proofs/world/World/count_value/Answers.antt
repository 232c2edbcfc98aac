use Rattle.std.proofs.Common.{sym, ap, ◌∙◌, arith}
use Rattle.nr_rev.specs.declared.cell_value.CellValue.TheVariants as value
use Rattle.nr_rev.specs.Sides.{of_side}
use Rattle.nr_machine.specs.World.{WorldParts}
use Rattle.nr_machine.proofs.CellLemmas.{count_value_is, count_there, nothing_past}
use Rattle.nr_machine.proofs.world.World.count_value.Goals as goal

pub returns-then-socket-len : goal.returns-then-socket-len
returns-then-socket-len c =
    let m : WorldParts = record { core = c.self.inside.core; socks = c.self.inside.socks.items } in
    rw (← c.self.view_is) (nothing_past m c.args.socket c.args.side (λ x. value.Number (of_side c.args.side x.semaphores).count) (omega arith))

pub returns-in-None : goal.returns-in-None
returns-in-None c =
    let world = rw (← c.self.view_is) at c.requires in
    absurd (count_there _ c.args.socket c.args.side world (omega arith) (sym c.in-None.is ∙ c.count.ensures))

pub returns-in-Some : goal.returns-in-Some
returns-in-Some c =
    let m : WorldParts = record { core = c.self.inside.core; socks = c.self.inside.socks.items } in
    rw (← c.self.view_is) (ap value.Number c.from.ensures ∙ count_value_is m c.args.socket c.args.side c.in-Some.count (omega arith) (sym c.in-Some.is ∙ c.count.ensures))
