use Rattle.nr_machine.specs.Fits.{IsWorld}
use Rattle.nr_replay_tests.proofs.world.take_in_two_tries.Given as goal

abbrev pub invariant-loop-step : goal.invariant-loop-step
invariant-loop-step g l = IsWorld l.world
