use Rattle.std.proofs.Common.{rules, ◌≡◌, ◌∷◌, length, take, drop, suc, sym, subst, inl, arith, length-take-le}
use Rattle.nr_rev.specs.Reversible.{Refuses}
use Rattle.nr_rev.specs.Auxiliary.Reversible.{IsLight}
use Rattle.nr_rev.specs.Transaction.{FirstRefused}
use Rattle.nr_rev.proofs.LeadsBackLemmas.{Applied-push, length-Applied, LeadsBack-Applied, LeadsBack-unchanged, FirstRefused-after, take-next, append-next}
use Rattle.nr_rev.proofs.transaction.transact.Goals as goal

pub push-requires : goal.push-requires
push-requires g c =
    let machine = g.S.Reversible in
    let light = IsLight machine.weight machine.allowance machine.bytes_out in
    let count = length-Applied machine.steps machine.back light _ _ _ _ c.loop-op.invariant.applied in
    let taken : length (take c.loop-op.op-index c.args.ops.now) ≡ c.loop-op.op-index = length-take-le _ _ (omega arith) in
    (search rules, omega (arith, count, taken))

pub undo_all-requires : goal.undo_all-requires
undo_all-requires g c =
    let machine = g.S.Reversible in
    let light = IsLight machine.weight machine.allowance machine.bytes_out in
    (search rules, (c.args.state.now, LeadsBack-unchanged machine.steps machine.back light _ _ _ _ _ c.loop-op.invariant.applied c.in-Err.ensures.unchanged))

pub returns-in-Err-clause-unchanged : goal.returns-in-Err-clause-unchanged
returns-in-Err-clause-unchanged g c =
    let machine = g.S.Reversible in
    let light = IsLight machine.weight machine.allowance machine.bytes_out in
    c.undo_all.ensures.back c.args.state.now (LeadsBack-unchanged machine.steps machine.back light _ _ _ _ _ c.loop-op.invariant.applied c.in-Err.ensures.unchanged)

pub returns-in-Err-clause-well_formed : goal.returns-in-Err-clause-well_formed
returns-in-Err-clause-well_formed g c =
    subst g.S.Reversible.is_well_formed (sym (returns-in-Err-clause-unchanged g c)) c.requires.well_formed

pub returns-in-Err-clause-refusal : goal.returns-in-Err-clause-refusal
returns-in-Err-clause-refusal g c =
    let machine = g.S.Reversible in
    let light = IsLight machine.weight machine.allowance machine.bytes_out in
    let refuses = Refuses machine.reason machine.takes_memory in
    let rest = c.op-item.result ∷ drop (suc c.loop-op.op-index) c.args.ops.now in
    subst (λ ops. FirstRefused machine.steps refuses c.args.state.now ops c.in-Err.refusal)
    (append-next c.args.ops.now c.loop-op.op-index c.op-item.result c.loop-op-test.true c.op-item.is)
    (FirstRefused-after machine.steps machine.back light refuses _ _ rest _ _ _ c.loop-op.invariant.applied (inl c.in-Err.ensures.refusal))

pub loop-op-preserved : goal.loop-op-preserved
loop-op-preserved g c =
    let machine = g.S.Reversible in
    let light = IsLight machine.weight machine.allowance machine.bytes_out in
    record {
      well_formed = c.apply.ensures.well_formed;
      applied = rw (take-next c.args.ops.now c.loop-op.op-index c.op-item.result c.loop-op-test.true c.op-item.is, c.push.ensures.items)
          (Applied-push machine.steps machine.back light _ _ _ _ c.in-Ok.field-0-0 _ _ _ c.loop-op.invariant.applied c.in-Ok.ensures.step c.in-Ok.ensures.back c.in-Ok.ensures.weight);
    }

pub returns-clause-leads_back : goal.returns-clause-leads_back
returns-clause-leads_back g c =
    let machine = g.S.Reversible in
    let light = IsLight machine.weight machine.allowance machine.bytes_out in
    LeadsBack-Applied machine.steps machine.back light _ _ _ _ c.loop-op.invariant.applied
