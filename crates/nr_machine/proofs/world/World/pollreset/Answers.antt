use Rattle.std.proofs.Common.{rules}
use Rattle.nr_machine.specs.declared.delta.WorldUndo.TheVariants.{Described}
use Rattle.nr_machine.proofs.ResetLemmas.{Resettable, reset_applies, reset_made}
use Rattle.nr_machine.proofs.world.World.pollreset.Goals as goal

pub returns-in_err-desc : goal.returns-in_err-desc
returns-in_err-desc g c =
    let world = rw (← c.self.view_is) at c.requires in
    let x = c.in_ok-open_desc_of.field-0 in
    let tested : Resettable c.args.self.now c.args.goroutine c.args.descriptor c.args.side x = search rules in
    let can = rw (← c.self.view_is) at tested in
    absurd (reset_applies _ c.args.goroutine c.args.descriptor c.args.side x world can c.in_err-desc.field-0.0 c.in_err-desc.ensures.err)

pub returns : goal.returns
returns g c =
    let world = rw (← c.self.view_is) at c.requires in
    let x = c.in_ok-open_desc_of.field-0 in
    let tested : Resettable c.args.self.now c.args.goroutine c.args.descriptor c.args.side x = search rules in
    let can = rw (← c.self.view_is) at tested in
    let some = c.in_ok-desc.ensures.ok in
    rw (← c.self.view_is)
    (Described c.in_ok-desc.desc, c.put-2.ensures, reset_made _ c.args.goroutine c.args.descriptor c.args.side x world can some.0 some.1 c.in_ok-desc.field-0-0 c.in_ok-desc.desc c.describe.new.self some.2)
