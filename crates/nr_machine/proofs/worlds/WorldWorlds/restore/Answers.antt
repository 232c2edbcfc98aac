use Rattle.std.proofs.Common.{◌≡◌, ◌-◌, ◌++◌, List, length, replicate, refl, sym, ap, ◌∙◌, subst}
use Rattle.nr_sockbuf.specs.Sock.{SockParts, never_opened}
use Rattle.nr_machine.specs.Snapshot.{AreClosedFrom, HaveLimit}
use Rattle.nr_machine.specs.World.{WorldParts}
use Rattle.nr_machine.proofs.SnapshotLemmas.{IsOpened, is_opened, opened_limit, written_closed, written_count, written_limit}
use Rattle.nr_machine.proofs.worlds.WorldWorlds.restore.Goals as goal

pub restore_opened-requires-clause-limit : goal.restore_opened-requires-clause-limit
restore_opened-requires-clause-limit c = λ s sock at. (c.requires.well_formed.parts.socks s sock at).limit

-- the snapshot's sockets are those of the world that it represents, which has the same limits
pub restore_opened-requires-clause-kept : goal.restore_opened-requires-clause-kept
restore_opened-requires-clause-kept c =
    let inside = c.snapshot.inside in
    let rest : List SockParts = replicate (inside.sockets - length inside.opened.items) (never_opened inside.core.limits.buffer) in
    let of : IsOpened c.args.self.now c.args.snapshot.now c.deref.result.now rest = is_opened _ _ _ _ inside.opened.items _ rest c.snapshot.view_is c.self.view_is refl (sym c.deref.ensures.value) c.if-not-is.ensures in
    opened_limit c.args.self.now c.args.snapshot.now c.deref.result.now rest c.requires.well_formed.parts c.requires.kept.parts of

-- there are as many sockets as before
pub reset_from-requires-clause-locks : goal.reset_from-requires-clause-locks
reset_from-requires-clause-locks c =
    let inside = c.snapshot.inside in
    let rest : List SockParts = replicate (inside.sockets - length inside.opened.items) (never_opened inside.core.limits.buffer) in
    let of : IsOpened c.args.self.now c.args.snapshot.now c.deref.result.now rest = is_opened _ _ _ _ inside.opened.items _ rest c.snapshot.view_is c.self.view_is refl (sym c.deref.ensures.value) c.if-not-is.ensures in
    let there = c.requires.well_formed.parts in
    ap (λ (m : WorldParts). m.core.locks.room) c.restore_opened.ensures ∙ there.core.locks_room ∙ sym there.socks_made
    ∙ sym (written_count c.args.self.now c.args.snapshot.now c.deref.result.now rest there c.requires.kept.parts of)
    ∙ ap (λ (m : WorldParts). length m.socks) (sym c.restore_opened.ensures)

pub reset_from-requires-clause-limit : goal.reset_from-requires-clause-limit
reset_from-requires-clause-limit c =
    let inside = c.snapshot.inside in
    let rest : List SockParts = replicate (inside.sockets - length inside.opened.items) (never_opened inside.core.limits.buffer) in
    let of : IsOpened c.args.self.now c.args.snapshot.now c.deref.result.now rest = is_opened _ _ _ _ inside.opened.items _ rest c.snapshot.view_is c.self.view_is refl (sym c.deref.ensures.value) c.if-not-is.ensures in
    subst (λ (m : WorldParts). HaveLimit m.core.limits.buffer m.socks) (sym c.restore_opened.ensures)
    (written_limit c.args.self.now c.args.snapshot.now c.deref.result.now rest c.requires.well_formed.parts c.requires.kept.parts of)

-- a socket is closed if it comes after the snapshot's opened sockets and has no lock
pub reset_from-requires-clause-closed : goal.reset_from-requires-clause-closed
reset_from-requires-clause-closed c =
    let inside = c.snapshot.inside in
    let rest : List SockParts = replicate (inside.sockets - length inside.opened.items) (never_opened inside.core.limits.buffer) in
    let of : IsOpened c.args.self.now c.args.snapshot.now c.deref.result.now rest = is_opened _ _ _ _ inside.opened.items _ rest c.snapshot.view_is c.self.view_is refl (sym c.deref.ensures.value) c.if-not-is.ensures in
    let count : length c.deref.result.now ≡ c.len.result = c.deref.ensures.len ∙ sym c.len.ensures in
    subst (λ n. AreClosedFrom n (length c.restore_opened.new.self.core.locks.items) c.restore_opened.new.self.socks) count
    (subst (λ (m : WorldParts). AreClosedFrom (length c.deref.result.now) (length m.core.locks.items) m.socks) (sym c.restore_opened.ensures)
    (written_closed c.args.self.now c.args.snapshot.now c.deref.result.now rest c.requires.well_formed.parts c.requires.kept.parts of))
