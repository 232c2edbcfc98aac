use Rattle.std.proofs.lemmas.Result.{err_from_is_err_and}
use Rattle.nr_machine.specs.declared.delta.WorldUndo.TheVariants.{Waited}
use Rattle.nr_machine.specs.World.{WorldParts}
use Rattle.nr_machine.proofs.WaitingLemmas.{one_more_waits, wait_moves, waiting_made, waiting_refused}
use Rattle.nr_machine.proofs.world.World.wait.Goals as goal

pub returns-in_err-left : goal.returns-in_err-left
returns-in_err-left g c =
    let m : WorldParts = record { core = c.self.inside.core; socks = c.self.inside.socks.items } in
    let p = err_from_is_err_and c.from_residual.result c.from_residual.ensures.1 in
    rw (← c.self.view_is) (rw (p.1, p.2) (
      waiting_refused m c.args.goroutine c.args.descriptor c.args.op.now c.in_err-left.field-0.0 c.in_err-left.ensures.err,
      λ i. record m { core = c.in_err-left.ensures.unchanged i },
    ))

pub move_to-moved-requires : goal.move_to-moved-requires
move_to-moved-requires g c =
    let some = c.in_ok-left.ensures.ok in
    rw (c.status_after-to.ensures)
    (wait_moves _ c.args.goroutine c.args.descriptor c.args.from c.args.op.now some.0 some.1 c.in_ok-left.left c.in_ok-left.desc c.describe.new.self
    (rw (← c.self.view_is) at c.requires.world)
    (rw (← c.self.view_is) at c.requires.there) c.requires.movable some.2)

pub park-requires : goal.park-requires
park-requires g c =
    let some = c.in_ok-left.ensures.ok in
    rw (c.move_to-moved.ensures.rest, some.2.rest) (one_more_waits _ (rw (← c.self.view_is) at c.requires.world))

pub returns : goal.returns
returns g c =
    let some = c.in_ok-left.ensures.ok in
    let world = rw (← c.self.view_is) at c.requires.world in
    rw (← c.self.view_is) (
      Waited c.in_ok-left.desc c.move_to-moved.result c.parks-parked.result,
      c.put.ensures,
      rw (c.parks-parked.ensures) (waiting_made _ c.args.goroutine c.args.descriptor c.args.op.now c.in_ok-left.left c.in_ok-left.desc c.move_to-moved.result
          c.describe.new.self c.move_to-moved.new.self c.park.new.self
          some.0 some.1 world.parts some.2
          (rw c.status_after-to.ensures at c.move_to-moved.ensures)
          (rw c.parks-parked.ensures at c.park.ensures.parked)
          (rw c.parks-parked.ensures at c.park.ensures.back)),
    )
