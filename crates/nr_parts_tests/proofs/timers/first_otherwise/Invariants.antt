use Rattle.nr_timers.specs.State.{IsTimers}
use Rattle.nr_parts_tests.proofs.timers.first_otherwise.Given as goal

abbrev pub invariant-loop-number : goal.invariant-loop-number
invariant-loop-number l = IsTimers l.timers
