use Rattle.std.proofs.Common.{ap}
use Rattle.std.proofs.lemmas.Result.{err_from_is_err_and}
use Rattle.nr_machine.specs.declared.delta.WorldUndo.TheVariants.{Goroutine}
use Rattle.nr_machine.specs.Fits.{IsWorld}
use Rattle.nr_machine.specs.World.{WorldParts}
use Rattle.nr_machine.proofs.GoroutinesLemmas.{goroutine_made, goroutine_refused, with_table}
use Rattle.nr_machine.proofs.world.World.goroutine.Goals as goal

pub apply-requires : goal.apply-requires
apply-requires g c =
    let world = rw (← c.self.view_is) at c.requires.world in
    world.parts.core.queued

pub returns-in_err-answer : goal.returns-in_err-answer
returns-in_err-answer g c =
    let m : WorldParts = record { core = c.self.inside.core; socks = c.self.inside.socks.items } in
    let world : IsWorld m = rw (← c.self.view_is) at c.requires.world in
    let p = err_from_is_err_and c.from_residual.result c.from_residual.ensures.1 in
    rw (← c.self.view_is) (rw (p.1, p.2) (
      goroutine_refused m c.args.op c.in_err-answer.field-0.0 world c.requires.step c.in_err-answer.ensures.refusal,
      ap (λ t. with_table t m) c.in_err-answer.ensures.unchanged,
    ))

pub returns : goal.returns
returns g c =
    let world = rw (← c.self.view_is) at c.requires.world in
    rw (← c.self.view_is) (
      Goroutine c.in_ok-answer.delta,
      c.put.ensures,
      goroutine_made _ c.args.op c.in_ok-answer.answer c.in_ok-answer.delta c.apply.new.self world c.requires.step
          c.in_ok-answer.ensures.step c.in_ok-answer.ensures.well_formed c.in_ok-answer.ensures.back c.in_ok-answer.ensures.weight,
    )
