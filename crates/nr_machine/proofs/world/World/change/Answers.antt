use Rattle.nr_machine.specs.declared.delta.WorldUndo.TheVariants.{Changed}
use Rattle.nr_machine.specs.World.{WorldParts}
use Rattle.nr_machine.proofs.ChangeLemmas.{change_can, change_made}
use Rattle.nr_machine.proofs.DescriptorLemmas.{found_there}
use Rattle.nr_machine.proofs.world.World.change.Goals as goal

pub wake_both-requires : goal.wake_both-requires
wake_both-requires g c =
    let m : WorldParts = record { core = c.self.inside.core; socks = c.self.inside.socks.items } in
    let d = c.args.descriptor in
    let there = found_there m d c.args.desc (rw (← c.self.view_is) at c.requires.there) in
    let world = rw (← c.self.view_is) at c.requires.world in
    change_can m d c.args.op.now c.args.desc c.apply.new.self c.in-Ok.left world there c.in-Ok.ensures.step
    c.sides.result c.obey.new.deltas c.obey.new.self c.set_descriptor.new.self c.sides.ensures
    c.in_ok-obey-in-Ok.ensures.obeyed c.in_ok-obey-in-Ok.ensures.back c.in_ok-obey-in-Ok.ensures.light c.set_descriptor.ensures

pub returns-in_ok-obey-in-Ok : goal.returns-in_ok-obey-in-Ok
returns-in_ok-obey-in-Ok g c =
    let m : WorldParts = record { core = c.self.inside.core; socks = c.self.inside.socks.items } in
    let d = c.args.descriptor in
    let there = found_there m d c.args.desc (rw (← c.self.view_is) at c.requires.there) in
    let world = rw (← c.self.view_is) at c.requires.world in
    rw (← c.self.view_is) (
      Changed (record { descriptor = d; before = c.in-Ok.before }) c.obey.new.deltas c.in-Ok.left.woken,
      c.put.ensures,
      change_made m d c.args.op.now c.args.desc c.apply.new.self c.in-Ok.left world there c.in-Ok.ensures.step
          c.sides.result c.obey.new.deltas c.in-Ok.before c.obey.new.self c.set_descriptor.new.self c.wake_both.new.self c.sides.ensures
          c.in_ok-obey-in-Ok.ensures.obeyed c.in_ok-obey-in-Ok.ensures.back c.in_ok-obey-in-Ok.ensures.light c.in-Ok.ensures.well_formed
          c.set_descriptor.ensures c.wake_both.ensures.woken c.wake_both.ensures.queued c.wake_both.ensures.back c.in-Ok.ensures.back,
    )
