use Rattle.std.proofs.Common.{ap}
use Rattle.std.proofs.lemmas.Int.{to_z-of_z}
use Rattle.std.proofs.lemmas.Result.{err_from_is_err_and}
use Rattle.nr_timers.specs.State.{State}
use Rattle.nr_machine.specs.declared.delta.WorldUndo.TheVariants.{Timers}
use Rattle.nr_machine.specs.Fits.{IsWorld}
use Rattle.nr_machine.specs.World.{WorldParts}
use Rattle.nr_machine.proofs.PopLemmas.{FirstIsLeast, pop_made, pop_refused}
use Rattle.nr_machine.proofs.world.World.pop.Goals as goal

pub apply-requires : goal.apply-requires
apply-requires g c =
    let world = rw (← c.self.view_is) at c.requires in
    world.parts.core.timers

pub returns-in_err-delta : goal.returns-in_err-delta
returns-in_err-delta g c =
    let m : WorldParts = record { core = c.self.inside.core; socks = c.self.inside.socks.items } in
    let world : IsWorld m = rw (← c.self.view_is) at c.requires in
    let now = world.meaning.clock.time in
    let law : FirstIsLeast = c.entries_are_the_descriptors.ensures.least in
    let p = err_from_is_err_and c.from_residual.result c.from_residual.ensures.1 in
    let why = simp (to_z-of_z, now) at c.in_err-delta.ensures.refusal in
    rw (← c.self.view_is) (rw (p.1, p.2) (
      pop_refused law m c.in_err-delta.field-0.0 world.parts why,
      ap (λ (t : State). record m { core = record m.core { timers = t } }) c.in_err-delta.ensures.unchanged,
    ))

pub returns : goal.returns
returns g c =
    let world = rw (← c.self.view_is) at c.requires in
    let now = world.meaning.clock.time in
    let law : FirstIsLeast = c.entries_are_the_descriptors.ensures.least in
    let step = simp (to_z-of_z, now) at c.in_ok-delta.ensures.step in
    rw (← c.self.view_is)
    (Timers c.in_ok-delta.delta, c.put.ensures, pop_made law _ c.apply.new.self c.in_ok-delta.delta world step c.in_ok-delta.ensures.well_formed c.in_ok-delta.ensures.back c.in_ok-delta.ensures.weight)
