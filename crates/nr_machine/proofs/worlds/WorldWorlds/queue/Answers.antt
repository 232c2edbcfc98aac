use Rattle.std.proofs.Common.{List, ℕ, length, Some, sym, ap, ◌∙◌, arith}
use Rattle.std.proofs.lemmas.Result.{err_from_is_err_and}
use Rattle.nr_machine.specs.World.{WorldParts}
use Rattle.nr_machine.proofs.QueueLemmas.{no_queue, queue_here, queue_some}
use Rattle.nr_machine.proofs.worlds.WorldWorlds.queue.Goals as goal

pub returns-then-socket-len-clause-ok : goal.returns-then-socket-len-clause-ok
returns-then-socket-len-clause-ok c =
    let len = c.len.ensures.len ∙ ap (λ (m : WorldParts). length m.core.locks.items) c.self.view_is in
    let past = c.if-socket-len.true in
    sym (no_queue c.args.self.now c.args.socket c.args.side (omega (arith, len, past)))

pub returns-in_err-items-clause-some : goal.returns-in_err-items-clause-some
returns-in_err-items-clause-some c =
    let len = c.len.ensures.len ∙ ap (λ (m : WorldParts). length m.core.locks.items) c.self.view_is in
    let within = c.if-socket-len.false in
    let r = c.in_err-items.ensures in
    let p = err_from_is_err_and c.from_residual.result c.from_residual.ensures.1 in
    rw (p.1) (queue_some c.args.self.now c.args.socket c.args.side (omega (arith, len, within)) r.some)

pub returns-clause-ok : goal.returns-clause-ok
returns-clause-ok c =
    let len = c.len.ensures.len ∙ ap (λ (m : WorldParts). length m.core.locks.items) c.self.view_is in
    let within = c.if-socket-len.false in
    let r = c.in_ok-items.ensures in
    ap (λ (q : List ℕ). Some q) (c.new.ensures ∙ r.ok) ∙ sym (queue_here c.args.self.now c.args.socket c.args.side (omega (arith, len, within)))
