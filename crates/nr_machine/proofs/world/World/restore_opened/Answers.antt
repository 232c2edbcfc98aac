use Rattle.std.proofs.Common.{◌<◌, ◌≤◌, length, refl, sym, ◌∙◌, subst, arith}
use Rattle.std.proofs.lemmas.Option.{slice_get_read}
use Rattle.nr_machine.specs.Snapshot.{HaveLimit}
use Rattle.nr_machine.specs.World.{WorldParts}
use Rattle.nr_machine.proofs.SnapshotLemmas.{same_at}
use Rattle.nr_machine.proofs.world.World.restore_opened.Goals as goal

-- the socket is the snapshot's, and has the snapshot's limit
pub restore-requires : goal.restore-requires
restore-requires c =
    let i = c.loop-socket.invariant in
    let socket = c.loop-socket.socket in
    let before = c.self.inside in
    let opened = c.args.opened.now in
    let count = subst (λ (m : WorldParts). length opened ≤ length m.socks) (sym c.self.view_is) c.requires.count in
    let limit = subst (λ (m : WorldParts). HaveLimit m.core.limits.buffer m.socks) (sym c.self.view_is) c.requires.limit in
    let kept = subst (λ (m : WorldParts). HaveLimit m.core.limits.buffer opened) (sym c.self.view_is) c.requires.kept in
    let within : socket < length opened = omega arith in
    let there = same_at socket c.loop-socket.self-inside.socks.items before.socks.items c.index_mut.result.now i.rest (omega (arith, count, within)) c.index_mut.ensures.value in
    limit socket c.index_mut.result.now there
    ∙ sym (kept socket c.index-opened-socket.result (slice_get_read opened (length opened) socket c.index-opened-socket.result refl within c.index-opened-socket.is))
