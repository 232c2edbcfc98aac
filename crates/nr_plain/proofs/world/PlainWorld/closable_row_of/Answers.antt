use Rattle.nr_laws.proofs.FreeNumberLemmas.{closable_has_room}
use Rattle.nr_plain.proofs.world.PlainWorld.closable_row_of.Goals as goal

pub returns-clause-room : goal.returns-clause-room
returns-clause-room c = closable_has_room c.args.self.now c.args.descriptor c.requires c.open_row_of.result c.open_row_of.ensures
