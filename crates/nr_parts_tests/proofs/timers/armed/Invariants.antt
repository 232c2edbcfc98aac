use Rattle.nr_timers.specs.State.{IsTimers}
use Rattle.nr_parts_tests.proofs.timers.armed.Given as goal

abbrev pub invariant-loop-time : goal.invariant-loop-time
invariant-loop-time l = IsTimers l.timers
