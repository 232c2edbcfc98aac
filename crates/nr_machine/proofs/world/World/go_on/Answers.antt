use Rattle.nr_machine.specs.declared.delta.WorldUndo.TheVariants.{Goroutine}
use Rattle.nr_machine.proofs.WaitingLemmas.{moved_made}
use Rattle.nr_machine.proofs.world.World.go_on.Goals as goal

pub returns : goal.returns
returns g c =
    let world = rw (← c.self.view_is) at c.requires.world in
    rw (← c.self.view_is)
    (Goroutine c.move_to-moved.result, c.put.ensures, moved_made _ c.args.goroutine c.args.to c.args.answer c.move_to-moved.result c.move_to-moved.new.self world.parts c.move_to-moved.ensures)
