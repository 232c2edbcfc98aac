use Rattle.std.proofs.Common.{subst}
use Rattle.nr_rev.specs.Transaction.{LeadsBack}
use Rattle.nr_rev.proofs.LeadsBackLemmas.{LeadsBack-last, LeadsBack-undone}
use Rattle.nr_rev.proofs.transaction.undo_all.Goals as goal

pub undo-requires : goal.undo-requires
undo-requires g c =
    let back = g.S.Reversible.back in
    let old = c.requires.0 in
    let whole = subst (λ ds. LeadsBack back ds c.loop-delta.state old) c.in-Some.ensures.items (c.loop-delta.invariant old c.requires.1) in
    let last = LeadsBack-last back c.pop.new.self.items c.in-Some.delta c.loop-delta.state old whole in
    (last.0, last.1)

pub loop-delta-preserved : goal.loop-delta-preserved
loop-delta-preserved g c old h =
    LeadsBack-undone g.S.Reversible.back g.met.S.Reversible.back_is_unique c.loop-delta.deltas.items c.pop.new.self.items c.in-Some.delta c.loop-delta.state c.undo.new.self old
    c.in-Some.ensures.items c.undo.ensures (c.loop-delta.invariant old h)
