use Rattle.std.proofs.Common.{◌≡◌, Ok, rules}
use Rattle.nr_rev.specs.Step.{idle}
use Rattle.nr_timers.specs.TimersOf.{timers_of}
use Rattle.nr_machine.specs.Rows.{row_of}
use Rattle.nr_machine.specs.World.{WorldParts, meant}
use Rattle.nr_machine.proofs.ChangeKindLemmas.{evict_is}
use Rattle.nr_machine.proofs.world.World.evict.Goals as goal

pub returns : goal.returns
returns g c =
    let m : WorldParts = c.args.self.now in
    let d = c.args.descriptor in
    let idles : idle c.args.goroutine (meant m) ≡ Ok tt = search rules in
    rw (evict_is c.args.goroutine d (meant m) (row_of c.in_ok-desc.desc (timers_of m.core.timers.entries d)) idles c.in_ok-desc.ensures) c.change.ensures
