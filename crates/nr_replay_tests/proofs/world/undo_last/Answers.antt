use Rattle.std.proofs.Common.{subst}
use Rattle.nr_rev.proofs.LeadsBackLemmas.{LeadsBack-last, LeadsBack-undone}
use Rattle.nr_rev.specs.Transaction.{LeadsBack}
use Rattle.nr_machine.specs.Delta.{WorldBack}
use Rattle.nr_machine.specs.DeltaLaws.{WorldBack-unique}
use Rattle.nr_replay_tests.proofs.world.undo_last.Goals as goal

pub undo-requires : goal.undo-requires
undo-requires c =
    let whole = subst (λ ds. LeadsBack WorldBack ds c.args.world.now c.requires.0) c.in-Some.ensures.items c.requires.1 in
    let last = LeadsBack-last WorldBack c.pop.new.self.items c.in-Some.delta c.args.world.now c.requires.0 whole in
    (last.0, last.1)

pub returns-in-Some : goal.returns-in-Some
returns-in-Some c = (
  c.requires.0,
  LeadsBack-undone WorldBack WorldBack-unique c.args.deltas.now.items c.pop.new.self.items c.in-Some.delta c.args.world.now c.undo.new.self c.requires.0
      c.in-Some.ensures.items c.undo.ensures c.requires.1,
)
