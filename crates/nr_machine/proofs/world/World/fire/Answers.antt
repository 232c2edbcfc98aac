use Rattle.std.proofs.Common.{◌≡◌, Some, rules}
use Rattle.std.specs.Prelude.{slice_get}
use Rattle.nr_timers.specs.TimersOf.{timers_of}
use Rattle.nr_machine.specs.Rows.{row_of}
use Rattle.nr_machine.specs.World.{WorldParts, meant}
use Rattle.nr_machine.proofs.ChangeKindLemmas.{fire_is}
use Rattle.nr_machine.proofs.world.World.fire.Goals as goal

pub returns : goal.returns
returns g c =
    let m : WorldParts = c.args.self.now in
    let d = c.in-Some.entry.descriptor in
    let there : slice_get (meant m).firings c.args.place ≡ Some c.in-Some.entry = search rules in
    rw (fire_is c.args.place (meant m) c.in-Some.entry (row_of c.in_ok-desc.desc (timers_of m.core.timers.entries d)) there c.in_ok-desc.ensures) c.change_by_firing.ensures
