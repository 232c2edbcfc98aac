use Rattle.nr_plain.specs.World.{world_view}
use Rattle.nr_plain.proofs.TakeLemmas.{taken_back}
use Rattle.nr_plain.proofs.world.PlainWorld.take.Goals as goal

pub returns-clause-back : goal.returns-clause-back
returns-clause-back g c keeps =
    let short = rw c.self.invariant.buffers at c.lose.ensures.short in
    let front = rw (← c.self.view_is) at (c.requires keeps) in (
      c.of.result,
      c.put.ensures,
      rw (← c.self.view_is, c.lose.ensures.after)
          (taken_back (world_view c.self.inside) c.args.socket c.args.side c.args.count c.args.bytes c.of.result short front c.of.ensures),
    )
