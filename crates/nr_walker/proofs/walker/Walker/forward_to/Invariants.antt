use Rattle.std.proofs.Common.{◌≡◌, ◌-◌, ◌≤◌}
use Rattle.nr_walker.specs.Walk.{forwards}
use Rattle.nr_walker.proofs.walker.Walker.forward_to.Given as goal

-- the walker has gone forward, but not past n
abbrev pub invariant-loop-self : goal.invariant-loop-self
invariant-loop-self g l =
    record {
      above : l.fn.self.position ≤ l.self.position;
      below : l.self.position ≤ l.n;
      way : l.self ≡ forwards l.fn.self l.self.position;
    }

abbrev pub decreases-loop-self : goal.decreases-loop-self
decreases-loop-self g l = l.n - l.self.position
