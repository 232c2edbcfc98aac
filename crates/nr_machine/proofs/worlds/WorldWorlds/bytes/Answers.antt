use Rattle.std.proofs.Common.{◌≡◌, List, ℕ, Some, None, sym, ap, subst, ◌∙◌, arith}
use Rattle.std.proofs.lemmas.Option.{slice_get_past}
use Rattle.std.proofs.lemmas.Result.{err_from_is_err_and}
use Rattle.std.specs.Prelude.{slice_get}
use Rattle.nr_machine.specs.World.{WorldParts}
use Rattle.nr_machine.proofs.QueueLemmas.{bytes_here, bytes_nowhere, bytes_some, no_bytes, sock_read}
use Rattle.nr_machine.proofs.worlds.WorldWorlds.bytes.Goals as goal

pub returns-then-socket-len-clause-ok : goal.returns-then-socket-len-clause-ok
returns-then-socket-len-clause-ok c =
    let m : WorldParts = record { core = c.self.inside.core; socks = c.self.inside.socks.items } in
    rw (← c.self.view_is) (sym (no_bytes m c.args.socket c.args.side (omega arith)))

pub returns-in_default-clause-ok : goal.returns-in_default-clause-ok
returns-in_default-clause-ok c =
    let m : WorldParts = record { core = c.self.inside.core; socks = c.self.inside.socks.items } in
    let at : slice_get m.socks c.args.socket ≡ None =
    subst (λ socks. slice_get socks c.args.socket ≡ None) c.deref.ensures.value (slice_get_past c.deref.result.now c.args.socket c.in_default.ensures.lookup.3) in
    rw (← c.self.view_is) (ap (λ (xs : List ℕ). Some xs) (c.new-in_default.ensures ∙ c.new.ensures.items) ∙ bytes_nowhere m c.args.socket c.args.side (omega arith) at)

pub returns-in_err-bytes-clause-some : goal.returns-in_err-bytes-clause-some
returns-in_err-bytes-clause-some c =
    let m : WorldParts = record { core = c.self.inside.core; socks = c.self.inside.socks.items } in
    let at = sock_read m c.args.socket c.deref.result.now c.in-Some.sock.now c.deref.ensures.value c.in-Some.ensures.lookup.3.0 c.in-Some.ensures.lookup.1 in
    let r = c.in_err-bytes.ensures in
    let p = err_from_is_err_and c.from_residual.result c.from_residual.ensures.1 in
    rw (p.1, ← c.self.view_is) (bytes_some m c.args.socket c.args.side (omega arith) c.in-Some.sock.now at r.err)

pub returns-clause-ok : goal.returns-clause-ok
returns-clause-ok c =
    let m : WorldParts = record { core = c.self.inside.core; socks = c.self.inside.socks.items } in
    let at = sock_read m c.args.socket c.deref.result.now c.in-Some.sock.now c.deref.ensures.value c.in-Some.ensures.lookup.3.0 c.in-Some.ensures.lookup.1 in
    let r = c.in_ok-bytes.ensures in
    rw (← c.self.view_is) (ap (λ (xs : List ℕ). Some xs) r.ok ∙ sym (bytes_here m c.args.socket c.args.side (omega arith) c.in-Some.sock.now at))
