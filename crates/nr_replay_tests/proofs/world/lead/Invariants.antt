use Rattle.nr_machine.specs.Fits.{IsWorld}
use Rattle.nr_replay_tests.proofs.world.lead.Given as goal

abbrev pub invariant-loop-step : goal.invariant-loop-step
invariant-loop-step l = IsWorld l.world
