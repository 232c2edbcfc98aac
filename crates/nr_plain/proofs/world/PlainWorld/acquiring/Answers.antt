use Rattle.std.proofs.Common.{◌≡◌, rules}
use Rattle.nr_plain.specs.Reads.{acquiring_by}
use Rattle.nr_plain.proofs.RoomLemmas.{acquiring_has_room}
use Rattle.nr_plain.proofs.world.PlainWorld.acquiring.Goals as goal

pub returns-clause-room : goal.returns-clause-room
returns-clause-room c =
    let is : c.acquiring_of.result ≡ acquiring_by c.args.goroutine c.args.self.now = search rules in
    acquiring_has_room c.args.self.now c.args.goroutine c.requires c.acquiring_of.result is
