use Rattle.std.proofs.Common.{◌≡◌, inl, Some, refl, sym, ap, subst, arith}
use Rattle.std.proofs.lemmas.Result.{err_from_is_err_and}
use Rattle.std.specs.Prelude.{slice_get}
use Rattle.nr_rev.specs.Worlds.{refusal_of}
use Rattle.nr_machine.specs.declared.delta.WorldUndo.TheVariants.{Opened}
use Rattle.nr_machine.proofs.MadeLemmas.{made_step}
use Rattle.nr_machine.proofs.SockOpenLemmas.{next_found, opening_full, opening_made, opening_refused}
use Rattle.nr_machine.proofs.TransferLemmas.{sock_same}
use Rattle.nr_machine.proofs.world.World.sockopen.Goals as goal

pub returns-then-opened-self : goal.returns-then-opened-self
returns-then-opened-self g c =
    let world = rw (← c.self.view_is) at c.requires.world in
    rw (← c.self.view_is) (inl (ap refusal_of (opening_full _ world c.args.step.now c.requires.step (omega arith))), refl)

pub returns-in_err-delta : goal.returns-in_err-delta
returns-in_err-delta g c =
    let world = rw (← c.self.view_is) at c.requires.world in
    let p = err_from_is_err_and c.from_residual.result c.from_residual.ensures.1 in
    let len = c.len-opened.ensures.len in
    let found = next_found _ world c.len-opened.result c.index_mut.result.now len c.if-opened-self.false c.index_mut.ensures.value in
    let at = subst (λ k. slice_get c.self.inside.socks.items k ≡ Some c.index_mut.result.now) (sym len) found.1 in
    let r = c.in_err-delta.ensures in
    rw (← c.self.view_is) (rw (p.1, p.2) (
      inl (opening_refused _ world found.0 c.index_mut.result.now found.1 c.args.step.now c.in_err-delta.field-0.0 c.requires.step r.refusal),
      sock_same _ c.len-opened.result c.index_mut.result.now c.apply.new.self at r.unchanged,
    ))

pub returns : goal.returns
returns g c =
    let world = rw (← c.self.view_is) at c.requires.world in
    let len = c.len-opened.ensures.len in
    let found = next_found _ world c.len-opened.result c.index_mut.result.now len c.if-opened-self.false c.index_mut.ensures.value in
    let r = c.in_ok-delta.ensures in
    let light = r.weight in
    rw (← c.self.view_is)
    (made_step g.K.Keeper.KEEPS g.K.Keeper.holds _ c.args.step.now _ _ (Opened c.in_ok-delta.delta) _ c.put.ensures
    (opening_made _ world found.0 c.index_mut.result.now found.1 c.args.step.now c.in_ok-delta.field-0-0 c.in_ok-delta.delta
    c.apply.new.self c.len-opened.result c.add_lock.new.self c.requires.step r.step r.back (omega (arith, light)) len c.add_lock.ensures))
