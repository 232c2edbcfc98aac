use Rattle.nr_rev.specs.Transaction.{LeadsBack}
use Rattle.nr_machine.specs.World.{WorldParts}
use Rattle.nr_machine.specs.Delta.{WorldBack}
use Rattle.nr_replay_tests.proofs.world.lead_and_return.Given as goal

abbrev pub invariant-loop : goal.invariant-loop
invariant-loop l = (old : WorldParts) × LeadsBack WorldBack l.deltas.items l.world old
