use Rattle.std.proofs.lemmas.Result.{err_from_is_err_and}
use Rattle.nr_machine.specs.declared.delta.WorldUndo.TheVariants.{Locked}
use Rattle.nr_machine.specs.World.{WorldParts}
use Rattle.nr_machine.proofs.LockingLemmas.{lock_moves, locking_made, locking_refused}
use Rattle.nr_machine.proofs.world.World.lock.Goals as goal

pub returns-in_err-left : goal.returns-in_err-left
returns-in_err-left g c =
    let m : WorldParts = record { core = c.self.inside.core; socks = c.self.inside.socks.items } in
    let p = err_from_is_err_and c.from_residual.result c.from_residual.ensures.1 in
    rw (← c.self.view_is) (rw (p.1, p.2) (
      locking_refused m c.args.goroutine c.args.socket c.args.op c.in_err-left.field-0.0 c.in_err-left.ensures.err,
      λ i. record m { core = c.in_err-left.ensures.unchanged i },
    ))

pub move_on-moved-requires : goal.move_on-moved-requires
move_on-moved-requires g c =
    let some = c.in_ok-left.ensures.ok in
    rw (c.status_left-to.ensures some.1)
    (lock_moves _ c.args.goroutine c.args.socket c.args.from c.args.op some.0 some.1 c.in_ok-left.left c.in_ok-left.lock c.lock.new.self
    (rw (← c.self.view_is) at c.requires.world)
    (rw (← c.self.view_is) at c.requires.there) c.requires.movable some.2)

pub returns : goal.returns
returns g c =
    let some = c.in_ok-left.ensures.ok in
    let world = rw (← c.self.view_is) at c.requires.world in
    rw (← c.self.view_is) (
      Locked c.in_ok-left.lock c.move_on-moved.result,
      c.put.ensures,
      locking_made _ c.args.goroutine c.args.socket c.args.op c.in_ok-left.left c.in_ok-left.lock c.move_on-moved.result c.lock.new.self c.move_on-moved.new.self
          some.0 some.1 world.parts some.2
          (rw (c.status_left-to.ensures some.1) at c.move_on-moved.ensures),
    )
