use Rattle.std.proofs.Common.{arith, refl}
use Rattle.nr_machine.specs.declared.delta.WorldUndo.TheVariants.{Made}
use Rattle.nr_machine.specs.World.{WorldParts}
use Rattle.nr_machine.proofs.OpeningLemmas.{opening_full, opening_made}
use Rattle.nr_machine.proofs.world.World.open_new.Goals as goal

pub returns-then-made-self : goal.returns-then-made-self
returns-then-made-self g c =
    let m : WorldParts = record { core = c.self.inside.core; socks = c.self.inside.socks.items } in
    rw (← c.self.view_is) (opening_full m c.args.socket (omega arith), refl)

pub returns : goal.returns
returns g c =
    let world = rw (← c.self.view_is) at c.requires in
    let step = rw c.never_opened-desc.ensures.descriptor at c.in_ok-apply.ensures.step in
    rw (← c.self.view_is, c.len-made.ensures.len, c.push.ensures)
    (Made, c.put.ensures, opening_made _ c.args.socket c.apply.new.self c.in_ok-apply.field-0.0 world (omega arith) step c.in_ok-apply.ensures.well_formed)
