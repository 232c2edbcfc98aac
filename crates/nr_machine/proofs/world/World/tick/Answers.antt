use Rattle.std.proofs.lemmas.Int.{to_z-of_z}
use Rattle.nr_machine.proofs.TimersLemmas.{tick_made}
use Rattle.nr_machine.proofs.world.World.tick.Goals as goal

pub returns : goal.returns
returns g c =
    let world = rw (← c.self.view_is) at c.requires in
    let now = world.meaning.clock.time in
    let later = simp (to_z-of_z, c.ranges.time, now) at c.if-time-before.false in
    rw (← c.self.view_is) (_, c.put.ensures, simp (to_z-of_z, c.ranges.time, now) (tick_made _ c.args.time world later))
