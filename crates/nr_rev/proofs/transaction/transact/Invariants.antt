use Rattle.std.proofs.Common.{take}
use Rattle.nr_rev.specs.Auxiliary.Reversible.{IsLight}
use Rattle.nr_rev.specs.Transaction.{Applied}
use Rattle.nr_rev.proofs.transaction.transact.Given as goal

-- the operations so far have been applied
abbrev pub invariant-loop-op : goal.invariant-loop-op
invariant-loop-op g l =
    let machine = g.S.Reversible in
    record {
      well_formed : machine.is_well_formed l.state;
      applied : Applied machine.steps machine.back (IsLight machine.weight machine.allowance machine.bytes_out) l.fn.state (take l.op-index l.ops) l.out.items l.state;
    }
