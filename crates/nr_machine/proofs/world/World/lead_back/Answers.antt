use Rattle.std.proofs.Common.{◌≡◌, rules, sym, subst, refl}
use Rattle.nr_machine.specs.declared.delta.WorldUndo.{WorldUndo}
use Rattle.nr_machine.specs.declared.delta.WorldUndo.TheVariants.{Locked, Reopened, Sock, Waited}
use Rattle.nr_machine.specs.Delta.{UndoBack}
use Rattle.nr_machine.specs.World.{WorldParts}
use Rattle.nr_machine.proofs.BackLemmas.{of_undo}
use Rattle.nr_machine.proofs.world.World.lead_back.Goals as goal

pub unlock_moved-requires : goal.unlock_moved-requires
unlock_moved-requires c =
    let m : WorldParts = record { core = c.self-in-Locked.inside.core; socks = c.self-in-Locked.inside.socks.items } in
    let is : c.args.undo.now ≡ Locked c.in-Locked.lock c.in-Locked.moved = search rules in
    let back = of_undo c.args.undo.now (Locked c.in-Locked.lock c.in-Locked.moved) m c.args.self.now is c.self-in-Locked.view_is c.requires in
    (back.0.core, back.1.0)

pub free_again-requires : goal.free_again-requires
free_again-requires c =
    let m : WorldParts = record { core = c.self-in-Reopened.inside.core; socks = c.self-in-Reopened.inside.socks.items } in
    let is : c.args.undo.now ≡ Reopened c.in-Reopened.desc = search rules in
    let back = of_undo c.args.undo.now (Reopened c.in-Reopened.desc) m c.args.self.now is c.self-in-Reopened.view_is c.requires in
    (back.0.core, back.1.0)

pub unwait-requires : goal.unwait-requires
unwait-requires c =
    let m : WorldParts = record { core = c.self-in-Waited.inside.core; socks = c.self-in-Waited.inside.socks.items } in
    let is : c.args.undo.now ≡ Waited c.in-Waited.desc c.in-Waited.moved c.in-Waited.parked = search rules in
    let back = of_undo c.args.undo.now (Waited c.in-Waited.desc c.in-Waited.moved c.in-Waited.parked) m c.args.self.now is c.self-in-Waited.view_is c.requires in
    (back.0.core, back.1.0)

pub untransfer-requires : goal.untransfer-requires
untransfer-requires c =
    let is : c.args.undo.now ≡ Sock c.in-Sock.socket c.in-Sock.delta = search rules in
    of_undo c.args.undo.now (Sock c.in-Sock.socket c.in-Sock.delta) c.args.self.now c.args.self.now is refl c.requires

pub returns-in-Sock : goal.returns-in-Sock
returns-in-Sock c =
    let is : c.args.undo.now ≡ Sock c.in-Sock.socket c.in-Sock.delta = search rules in
    subst (λ (undo : WorldUndo). UndoBack undo c.args.self.now c.untransfer.new.self) (sym is) c.untransfer.ensures
