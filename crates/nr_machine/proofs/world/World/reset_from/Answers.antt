use Rattle.std.proofs.Common.{◌≡◌, ◌+◌, ◌-◌, ◌≤◌, ◌++◌, length, take, replicate, Some, refl, sym, ap, ◌∙◌, subst, arith}
use Rattle.std.specs.List.{slice_get}
use Rattle.std.specs.Prelude.{slice_set}
use Rattle.std.proofs.lemmas.List.{length-set, take-set-le}
use Rattle.std.proofs.lemmas.Option.{slice_get_read}
use Rattle.nr_sockbuf.specs.Sock.{never_opened}
use Rattle.nr_machine.specs.World.{WorldParts}
use Rattle.nr_machine.proofs.SnapshotLemmas.{AreReset, parts_are, reset-all, reset-next}
use Rattle.nr_machine.proofs.world.World.reset_from.Goals as goal

-- one more socket is closed
pub loop-socket-preserved : goal.loop-socket-preserved
loop-socket-preserved c =
    let i = c.loop-socket.invariant in
    let socket = c.loop-socket.socket in
    let socks = c.loop-socket.self-inside.socks.items in
    let before = c.self.inside in
    let locks = subst (λ (m : WorldParts). m.core.locks.room ≡ length m.socks) (sym c.self.view_is) c.requires.locks in
    let end = c.len-socket-end.ensures.within in
    let count = i.count in
    let old = c.index_mut.result.now in
    let there : slice_get socks socket ≡ Some old = slice_get_read socks (length socks) socket old refl (omega (arith, locks, end, count)) c.index_mut.ensures.value in
    let from = c.loop-socket.auto.socket in
    record {
      core = i.core;
      count = length-set socks socket c.reset.new.self ∙ i.count;
      before = take-set-le c.args.first socks socket c.reset.new.self (omega (arith, from)) ∙ i.before;
      reset = subst (λ x. AreReset before.core.limits.buffer c.args.first (socket + 1) (length before.core.locks.items) (slice_set socks socket x)) (sym c.reset.ensures)
          (reset-next before.core.limits.buffer c.args.first socket (length before.core.locks.items) socks old there i.reset);
    }

-- all sockets from `first` on are closed
pub returns : goal.returns
returns c =
    let i = c.loop-socket.invariant in
    let before = c.self.inside in
    let socks = c.loop-socket.self-inside.socks.items in
    let first = c.args.first in
    let closed = never_opened before.core.limits.buffer in
    let end = c.len-socket-end.ensures.len in
    let count = i.count in
    let within = subst (λ (m : WorldParts). first ≤ length m.socks) (sym c.self.view_is) c.requires.first in
    let whole = reset-all before.core.limits.buffer first c.loop-socket.socket (length before.core.locks.items) socks (omega (arith, end)) (omega (arith, within, count)) i.reset in
    let is : socks ≡ take first before.socks.items ++ replicate (length before.socks.items - first) closed =
    whole ∙ ap (λ xs. xs ++ replicate (length socks - first) closed) i.before ∙ ap (λ n. take first before.socks.items ++ replicate (n - first) closed) i.count in
    rw (← c.self.view_is) (parts_are c.loop-socket.self-inside.core before.core socks (take first before.socks.items ++ replicate (length before.socks.items - first) closed) i.core is)
