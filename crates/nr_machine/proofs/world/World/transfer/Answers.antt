use Rattle.std.proofs.Common.{inl, refl, sym, ap, ◌∙◌, arith}
use Rattle.std.proofs.lemmas.Result.{err_from_is_err_and}
use Rattle.nr_rev.specs.Worlds.{refusal_of}
use Rattle.nr_machine.specs.declared.delta.WorldUndo.TheVariants.{Sock}
use Rattle.nr_machine.proofs.TransferLemmas.{no_socket, sock_found, sock_same, transfer_advanced, transfer_advances, transfer_refused, transfer_undoes}
use Rattle.nr_machine.proofs.world.World.transfer.Goals as goal

pub returns-then-socket-len : goal.returns-then-socket-len
returns-then-socket-len g c =
    let world = rw (← c.self.view_is) at c.requires.world in
    let is = rw (← c.self.view_is) at c.requires.step in
    rw (← c.self.view_is) (inl (ap refusal_of (no_socket _ c.args.socket c.args.step.now world is (omega arith))), refl)

pub returns-in_err-answer : goal.returns-in_err-answer
returns-in_err-answer g c =
    let world = rw (← c.self.view_is) at c.requires.world in
    let is = rw (← c.self.view_is) at c.requires.step in
    let found = sock_found _ c.args.socket _ c.index_mut-sock.result.now world c.len.ensures.len c.if-socket-len.false c.index_mut-sock.ensures.value in
    let p = err_from_is_err_and c.from_residual.result c.from_residual.ensures.1 in
    let r = c.in_err-answer.ensures in
    rw (← c.self.view_is) (rw (p.1, p.2) (
      transfer_refused _ c.args.socket c.args.step.now world is c.index_mut-sock.result.now found.0 found.1 g.K.Keeper.KEEPS c.in_err-answer.field-0.0 (sym c.KEEPS.ensures ∙ c.if-KEEPS.true) r.refusal,
      sock_same _ c.args.socket c.index_mut-sock.result.now c.apply.new.self found.1 r.unchanged,
    ))

pub returns-then-KEEPS : goal.returns-then-KEEPS
returns-then-KEEPS g c =
    let world = rw (← c.self.view_is) at c.requires.world in
    let is = rw (← c.self.view_is) at c.requires.step in
    let found = sock_found _ c.args.socket _ c.index_mut-sock.result.now world c.len.ensures.len c.if-socket-len.false c.index_mut-sock.ensures.value in
    let r = c.in_ok-answer.ensures in
    let light = r.weight in
    rw (← c.self.view_is) (
      transfer_advanced _ c.args.socket c.args.step.now world is c.index_mut-sock.result.now found.0 found.1 c.apply.new.self c.in_ok-answer.answer r.step,
      λ _. (
        Sock c.args.socket c.in_ok-answer.delta,
        c.put.ensures,
        transfer_undoes _ c.args.socket c.args.step.now world is c.index_mut-sock.result.now found.0 found.1 c.apply.new.self c.in_ok-answer.answer r.step
            c.in_ok-answer.delta r.back (omega (arith, light)),
      ),
    )

pub returns : goal.returns
returns g c =
    let world = rw (← c.self.view_is) at c.requires.world in
    let is = rw (← c.self.view_is) at c.requires.step in
    let found = sock_found _ c.args.socket _ c.index_mut-sock.result.now world c.len.ensures.len c.if-socket-len.false c.index_mut-sock.ensures.value in
    let r = c.advance.ensures in
    rw (← c.self.view_is)
    (transfer_advances _ c.args.socket c.args.step.now world is c.index_mut-sock.result.now found.0 found.1 g.K.Keeper.KEEPS g.K.Keeper.holds _ (sym c.KEEPS.ensures ∙ c.if-KEEPS.false)
    c.advance.new.self c.advance.result r.step r.refusal r.unchanged)
