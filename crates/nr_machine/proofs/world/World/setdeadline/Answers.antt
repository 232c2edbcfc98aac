use Rattle.std.proofs.Common.{◌≡◌, Ok, rules, ap, ◌∙◌, w64, to_z, of_z}
use Rattle.std.proofs.lemmas.Int.{to_z-of_z}
use Rattle.nr_rev.specs.Step.{idle}
use Rattle.nr_timers.specs.TimersOf.{timers_of}
use Rattle.nr_machine.specs.Rows.{row_of}
use Rattle.nr_machine.specs.World.{WorldParts, meant}
use Rattle.nr_machine.proofs.ChangeKindLemmas.{setdeadline_is}
use Rattle.nr_machine.proofs.world.World.setdeadline.Goals as goal

pub returns : goal.returns
returns g c =
    let m : WorldParts = c.args.self.now in
    let d = c.args.descriptor in
    let idles : idle c.args.goroutine (meant m) ≡ Ok tt = search rules in
    let read : to_z w64 (of_z w64 c.self.inside.core.clock) ≡ c.self.inside.core.clock = search rules in
    let clock : to_z w64 (of_z w64 c.self.inside.core.clock) ≡ m.core.clock = read ∙ ap (λ (k : WorldParts). k.core.clock) c.self.view_is in
    let time : to_z w64 (of_z w64 c.args.time) ≡ c.args.time = to_z-of_z w64 c.args.time c.ranges.time in
    rw (setdeadline_is c.args.goroutine d (meant m) (row_of c.in_ok-desc.desc (timers_of m.core.timers.entries d)) idles c.in_ok-desc.ensures c.args.mode c.args.time)
    (rw (clock, time) at c.change.ensures)
