use Rattle.std.proofs.Common.{◌<◌, length, rules, sym, subst}
use Rattle.std.proofs.lemmas.Result.{err_from_is_err_and}
use Rattle.nr_machine.specs.declared.delta.WorldUndo.TheVariants.{Closed}
use Rattle.nr_machine.specs.declared.world_core.Core.{Core}
use Rattle.nr_machine.proofs.ClosingLemmas.{Closable, close_has_room, close_made, close_refused}
use Rattle.nr_machine.proofs.world.World.pollclose.Goals as goal

pub returns-in_err-desc : goal.returns-in_err-desc
returns-in_err-desc g c =
    let world = rw (← c.self.view_is) at c.requires in
    let tested : Closable c.args.self.now c.args.goroutine c.args.descriptor c.in_ok-open_desc_of.field-0 = search rules in
    let can = rw (← c.self.view_is) at tested in
    let p = err_from_is_err_and c.from_residual-in_err-desc.result c.from_residual-in_err-desc.ensures.1 in
    rw (← c.self.view_is) (rw (p.1, p.2) (
      close_refused _ c.args.goroutine c.args.descriptor c.in_ok-open_desc_of.field-0 world can c.in_err-desc.field-0.0 c.in_err-desc.ensures.err,
      λ i. record { core = c.in_err-desc.ensures.unchanged i; socks = c.self.inside.socks.items },
    ))

pub insert-requires-clause-room : goal.insert-requires-clause-room
insert-requires-clause-room g c =
    let world = rw (← c.self.view_is) at c.requires in
    let tested : Closable c.args.self.now c.args.goroutine c.args.descriptor c.in_ok-open_desc_of.field-0 = search rules in
    let can = rw (← c.self.view_is) at tested in
    let some = c.in_ok-desc.ensures.ok in
    subst (λ (core : Core). length core.free.items < core.free.room) (sym some.2.rest)
    (close_has_room _ c.args.goroutine c.args.descriptor c.in_ok-open_desc_of.field-0 world can)

pub returns : goal.returns
returns g c =
    let world = rw (← c.self.view_is) at c.requires in
    let tested : Closable c.args.self.now c.args.goroutine c.args.descriptor c.in_ok-open_desc_of.field-0 = search rules in
    let can = rw (← c.self.view_is) at tested in
    let some = c.in_ok-desc.ensures.ok in
    rw (← c.self.view_is, c.insert.ensures) (
      Closed c.in_ok-desc.desc,
      c.put.ensures,
      close_made _ c.args.goroutine c.args.descriptor c.in_ok-open_desc_of.field-0 world can
          some.0 some.1 c.in_ok-desc.field-0-0 c.in_ok-desc.desc c.describe.new.self some.2,
    )
