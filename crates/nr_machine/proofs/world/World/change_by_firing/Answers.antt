use Rattle.std.proofs.Common.{◌≡◌, [], Some, None}
use Rattle.nr_machine.specs.declared.delta.WorldUndo.TheVariants.{Changed}
use Rattle.nr_machine.specs.Asked.{asked_at}
use Rattle.nr_machine.specs.World.{WorldParts}
use Rattle.nr_machine.proofs.ChangeLemmas.{firing_can, firing_made}
use Rattle.nr_machine.proofs.DescriptorLemmas.{found_there}
use Rattle.nr_machine.proofs.world.World.change_by_firing.Goals as goal

pub wake_both-requires : goal.wake_both-requires
wake_both-requires g c =
    let m : WorldParts = record { core = c.self.inside.core; socks = c.self.inside.socks.items } in
    let d = c.args.descriptor in
    let there = found_there m d c.args.desc (rw (← c.self.view_is) at c.requires.there) in
    let world = rw (← c.self.view_is) at c.requires.world in
    let quiet : asked_at d c.args.op.now m ≡ [] = rw (← c.self.view_is) at c.requires.quiet in
    firing_can m d c.args.op.now c.args.desc c.apply.new.self c.in_ok-left.left world there c.in_ok-left.ensures.step
    c.args.place c.take_firing-taken.result c.take_firing-taken.new.self c.set_descriptor.new.self quiet c.take_firing-taken.ensures c.set_descriptor.ensures

pub returns : goal.returns
returns g c =
    let m : WorldParts = record { core = c.self.inside.core; socks = c.self.inside.socks.items } in
    let d = c.args.descriptor in
    let there = found_there m d c.args.desc (rw (← c.self.view_is) at c.requires.there) in
    let world = rw (← c.self.view_is) at c.requires.world in
    let quiet : asked_at d c.args.op.now m ≡ [] = rw (← c.self.view_is) at c.requires.quiet in
    rw (← c.self.view_is) (
      Changed (record { descriptor = d; before = c.in_ok-left.before }) (record { read = Some c.take_firing-taken.result; write = None }) c.in_ok-left.left.woken,
      c.put.ensures,
      firing_made m d c.args.op.now c.args.desc c.apply.new.self c.in_ok-left.left world there c.in_ok-left.ensures.step
          c.args.place c.take_firing-taken.result c.in_ok-left.before c.take_firing-taken.new.self c.set_descriptor.new.self c.wake_both.new.self quiet c.take_firing-taken.ensures
          c.in_ok-left.ensures.well_formed c.set_descriptor.ensures c.wake_both.ensures.woken c.wake_both.ensures.queued c.wake_both.ensures.back c.in_ok-left.ensures.back,
    )
